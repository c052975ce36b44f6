-- `update` meets its contract: eight steps are the table's entry for the low byte, and the other bits shifted down (`update-table`).
-- Assumes nothing.
use Prim.Native.Nat.{ℕ, ◌%◌, ◌/◌}
use native.Mathlib.Nat.{mod-lt}
use mathlib.Core.Path.{sym, ap, ◌∙◌}
use lib.Dec.{lit<}
use lib.Bits.{bit_xor}
use borrow.Author.Rules.{rules}
use Rattle.key_murmur3.specs.Words.{xor}
use Rattle.crc32.proofs.CrcLaws.{update-table}
use Rattle.crc32.proofs.update.Goals as goal

pub returns : goal.returns
unfolding xor
returns c =
    let state = c.args.c in
    let b = c.args.b in
    let i = bit_xor state b % 256 in
    ap (λ (n : ℕ). bit_xor n (state / 256)) (c.requires i (mod-lt (bit_xor state b) (lit< tt)))
    ∙ sym (update-table state b (search rules))
