-- Public: `str` of the Rust, as its bytes, and the methods that the sources call. A `char` is one byte here: those
-- searched for are ASCII, and no byte of a longer character is one of them.
-- Assumes nothing.
use Rattle.std.specs.Prelude.{ℕ, zero, suc, Bool, true, false, cond, ◌&&◌, ◌||◌, List, [], ◌∷◌, ◌==◌, Option, Some, None, option_map}

abbrev pub Text : Type 0
Text = List ℕ

-- ==
abbrev pub text-eq : Text → Text → Bool
text-eq [] [] = true
text-eq [] (y ∷ ys) = false
text-eq (x ∷ xs) [] = false
text-eq (x ∷ xs) (y ∷ ys) = x == y && text-eq xs ys

abbrev pub is-empty : Text → Bool
is-empty [] = true
is-empty (b ∷ s) = false

abbrev pub strip-prefix : Text → Text → Option Text
strip-prefix [] s = Some s
strip-prefix (p ∷ ps) [] = None
strip-prefix (p ∷ ps) (b ∷ s) = cond (p == b) (strip-prefix ps s) None

-- .contains(char)
abbrev pub contains : ℕ → Text → Bool
contains c [] = false
contains c (b ∷ s) = b == c || contains c s

-- .contains([char; 2])
abbrev pub contains-any : ℕ → ℕ → Text → Bool
contains-any c d [] = false
contains-any c d (b ∷ s) = (b == c || b == d) || contains-any c d s

-- .ends_with(char), .starts_with(char)
abbrev pub ends_with : ℕ → Text → Bool
ends_with c [] = false
ends_with c (b ∷ []) = b == c
ends_with c (b ∷ (d ∷ s)) = ends_with c (d ∷ s)

abbrev pub starts-with : ℕ → Text → Bool
starts-with c [] = false
starts-with c (b ∷ s) = b == c

-- .bytes().all(test)
abbrev pub all-bytes : (ℕ → Bool) → Text → Bool
all-bytes test [] = true
all-bytes test (b ∷ s) = test b && all-bytes test s

-- ---- splitting at a character

pub record Split : Type 0 where
  pub before : Text
  pub behind : Text

abbrev pub longer : ℕ → Split → Split
longer b x = record { before = b ∷ x.before; behind = x.behind }

-- .split_once(char): at the first; .rsplit_once(char): at the last
abbrev pub split-once : ℕ → Text → Option Split
split-once c [] = None
split-once c (b ∷ s) = cond (b == c) (Some (record { before = []; behind = s })) (option_map (longer b) (split-once c s))

abbrev pub rsplit-from : ℕ → ℕ → Text → Option Split → Option Split
rsplit-from c b s (Some x) = Some (longer b x)
rsplit-from c b s None = cond (b == c) (Some (record { before = []; behind = s })) None

abbrev pub rsplit_once : ℕ → Text → Option Split
rsplit_once c [] = None
rsplit_once c (b ∷ s) = rsplit-from c b s (rsplit_once c s)

-- .split(char): the parts between
abbrev pub head-longer : ℕ → List Text → List Text
head-longer b [] = (b ∷ []) ∷ []
head-longer b (p ∷ ps) = (b ∷ p) ∷ ps

abbrev pub split : ℕ → Text → List Text
split c [] = [] ∷ []
split c (b ∷ s) = cond (b == c) ([] ∷ split c s) (head-longer b (split c s))

-- .splitn(n, char): at most n parts, the last with all that is left
abbrev pub splitn-from : (Text → List Text) → Text → Option Split → List Text
splitn-from rest s None = s ∷ []
splitn-from rest s (Some x) = x.before ∷ rest x.behind

abbrev pub splitn : ℕ → ℕ → Text → List Text
splitn zero c s = []
splitn (suc zero) c s = s ∷ []
splitn (suc (suc n)) c s = splitn-from (splitn (suc n) c) s (split-once c s)
