-- Public: a saved form that is damaged or cut is refused with 64 (proved in proofs/RefuseLaws).
-- Assumes nothing.
use Rattle.std.specs.Prelude.{ℕ, ◌<◌, ◌≡◌, true, false, List, length, take, get_or, set}
use Rattle.slice.specs.Bytes.{Bytes}
use Rattle.refusal.specs.declared.Refusal.TheVariants.{MalformedSave}
use Rattle.session.specs.Calls.{not_opened}
use Rattle.session_saved.specs.Form.{is_saved}
use Rattle.session_saved.specs.Saved.{no_session, restore_outcome}

-- one byte that is another
abbrev pub OneByteRefused : Type 0
OneByteRefused =
    (f : List ℕ) (i v : ℕ) → Bytes f → is_saved f ≡ true → i < length f → v < 256 → (v ≡ get_or f i 0 → ⊥) → is_saved (set f i v) ≡ false

-- the form cut anywhere
abbrev pub CutRefused : Type 0
CutRefused = (f : List ℕ) (n : ℕ) → is_saved f ≡ true → n < length f → is_saved (take n f) ≡ false

-- what is no form is refused with 64, and every byte of the store stays
abbrev pub RefusedWith64 : Type 0
RefusedWith64 = (f store : List ℕ) → is_saved f ≡ false → restore_outcome f store ≡ not_opened MalformedSave no_session store
