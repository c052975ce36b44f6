-- Public: parents (01, Names; 02 h): `topic://` and a path of tenant, namespace and rest, "split at the first two `/`".
-- "All three are non-empty; the rest does not end in `/` and has no `?` or `#`." By 02 h tenant and namespace have none
-- either.
-- Assumes nothing.
use Rattle.std.specs.Prelude.{ℕ, suc, ◌-◌, Bool, true, cond, not, ◌&&◌, List, [], ◌∷◌, length, drop, get_or, ltb, leb}
use Rattle.slice.specs.Same.{starts_with}
use Rattle.name_parents.specs.Classes.{class_of, is_slash, is_dash, is_mark}

-- "topic://"
abbrev pub topic_scheme : List ℕ
topic_scheme = 0x74 ∷ 0x6F ∷ 0x70 ∷ 0x69 ∷ 0x63 ∷ 0x3A ∷ 0x2F ∷ 0x2F ∷ []

-- its bytes
abbrev pub topic_scheme_size : ℕ
topic_scheme_size = 8

-- the bytes before the first '/'
unfoldable pub before_slash : List ℕ → List ℕ
before_slash [] = []
before_slash (b ∷ l) = cond (is_slash b) [] (b ∷ before_slash l)

-- the bytes behind the first '/', none where there is no '/'
unfoldable pub behind_slash : List ℕ → List ℕ
behind_slash [] = []
behind_slash (b ∷ l) = cond (is_slash b) l (behind_slash l)

-- no byte is '?' or '#'
unfoldable pub clean : List ℕ → Bool
clean [] = true
clean (b ∷ l) = not (is_mark b) && clean l

abbrev pub non_empty : List ℕ → Bool
non_empty l = ltb 0 (length l)

abbrev pub ends_in_slash : List ℕ → Bool
ends_in_slash l = is_slash (get_or l (length l - 1) 0)

abbrev pub tenant : List ℕ → List ℕ
tenant p = before_slash p

abbrev pub namespace : List ℕ → List ℕ
namespace p = before_slash (behind_slash p)

abbrev pub local_name : List ℕ → List ℕ
local_name p = behind_slash (behind_slash p)

abbrev pub is_local_name : List ℕ → Bool
is_local_name r = non_empty r && (not (ends_in_slash r) && clean r)

-- 01's rule alone, which is the Rust's
unfoldable pub has_three_parts : List ℕ → Bool
has_three_parts p = non_empty (tenant p) && (non_empty (namespace p) && is_local_name (local_name p))

-- 02 h: "forbids `?` and `#` in all three parts of a parent"; the rest has none by 01
unfoldable pub front_clean : List ℕ → Bool
front_clean p = clean (tenant p) && clean (namespace p)

unfoldable pub is_path : List ℕ → Bool
is_path p = has_three_parts p && front_clean p

unfoldable pub is_parent : List ℕ → Bool
is_parent s = starts_with topic_scheme s && is_path (drop topic_scheme_size s)

-- the path of a parent
abbrev pub path_of : List ℕ → List ℕ
path_of s = drop topic_scheme_size s

-- ---- what a helper of src/ answers

-- the byte stops a walk: its class is the lowest or one above it, '-' aside
abbrev pub stops : (lowest b : ℕ) → Bool
stops lowest b = leb lowest (class_of b) && not (is_dash b)

-- how many bytes stand before the first that stops
unfoldable pub passed : (lowest : ℕ) → List ℕ → ℕ
passed lowest [] = 0
passed lowest (b ∷ l) = cond (stops lowest b) 0 (suc (passed lowest l))
