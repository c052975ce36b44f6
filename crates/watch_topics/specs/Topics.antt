-- Public: topics in byte order, and sets of topics as rising lists: what the Rust keeps in a `BTreeSet<String>` is such
-- a list.
-- Assumes nothing.
use Rattle.std.specs.Prelude.{ℕ, Bool, true, false, cond, ◌&&◌, ◌||◌, List, [], ◌∷◌, length, ltb, leb}
use Rattle.slice.specs.Same.{same_bytes}
use Rattle.std.specs.declared.cmp.Ordering.{Ordering}
use Rattle.std.specs.declared.cmp.Ordering.TheVariants.{Less, Equal, Greater}

-- ---- byte order: by the first byte that differs; a topic stands before its continuations

unfoldable pub order : (xs ys : List ℕ) → Ordering
order [] [] = Equal
order [] (y ∷ ys) = Less
order (x ∷ xs) [] = Greater
order (x ∷ xs) (y ∷ ys) = cond (ltb x y) Less (cond (ltb y x) Greater (order xs ys))

abbrev pub by_order {ℓ} : {A : Type ℓ} → Ordering → A → A → A → A
by_order Less a b c = a
by_order Equal a b c = b
by_order Greater a b c = c

-- a stands before b
abbrev pub before : (a b : List ℕ) → Bool
before a b = by_order (order a b) true false false

-- ---- lists of topics

-- t is one of them
unfoldable pub has : List ℕ → List (List ℕ) → Bool
has t [] = false
has t (u ∷ us) = same_bytes t u || has t us

-- `BTreeSet::insert`: t in its place in a rising list, unless it is there
unfoldable pub insert : List ℕ → List (List ℕ) → List (List ℕ)
insert t [] = t ∷ []
insert t (u ∷ us) = by_order (order t u) (t ∷ u ∷ us) (u ∷ us) (u ∷ insert t us)

-- each of ts inserted, one after the other
unfoldable pub insert_all : (ts l : List (List ℕ)) → List (List ℕ)
insert_all [] l = l
insert_all (t ∷ ts) l = insert_all ts (insert t l)

-- the topics of a list, each once, rising
abbrev pub sorted : List (List ℕ) → List (List ℕ)
sorted ts = insert_all ts []

-- t stands before the first of a list
abbrev pub leads : List ℕ → List (List ℕ) → Bool
leads t [] = true
leads t (u ∷ us) = before t u

-- each stands before the next: "rising in byte order, distinct"
unfoldable pub rising : List (List ℕ) → Bool
rising [] = true
rising (t ∷ ts) = leads t ts && rising ts

-- the longest topic that a 16-bit length can tell
abbrev pub max_topic : ℕ
max_topic = 65535

unfoldable pub all_short : List (List ℕ) → Bool
all_short [] = true
all_short (t ∷ ts) = leb (length t) max_topic && all_short ts
