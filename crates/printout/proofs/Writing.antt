-- Texts written one after the other: the laws of `printout_numbers/proofs/Writing.antt`.
pub use Rattle.printout_numbers.proofs.Writing.{sets_append, wrote_both, wrote_none, sets_take, digits-length, digits_more, digits_step, digits-done}
