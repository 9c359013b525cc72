pub mod LinearPk
