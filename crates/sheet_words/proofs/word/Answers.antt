-- `sheet_words::word` meets its contract.
use mathlib.Core.Path.{◌≡◌, ap, ◌∙◌}
use Prim.Native.Nat.{ℕ, ◌+◌, ◌-◌, ◌*◌}
use native.Mathlib.Omega.{arith}
use lib.ListN.{take, drop}
use Rattle.sheet_words.specs.Words.{little_endian}
use Rattle.sheet_words.proofs.Bytes.{eight, word_at}
use Rattle.sheet_words.proofs.word.Goals as goal

pub returns : goal.returns
returns c =
    let g = c.args in
    let e : 8 * g.i + 8 - 8 * g.i ≡ 8 = omega arith in
    rw (word_at g.bytes.now g.i c.requires)
    (c.from_le_bytes.ensures ∙ eight c.copy_from_slice.new.self c.copy_from_slice.ensures.len
    ∙ ap little_endian (c.copy_from_slice.ensures.after ∙ ap (λ (n : ℕ). take n (drop (8 * g.i) g.bytes.now)) e))
