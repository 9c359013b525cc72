-- What a `?` hands on.
pub use Rattle.std.proofs.lemmas.Result.{err_from_is_err_and}
