-- Public: lists whose entries have a key, a number, and what is done to them by key: what the Rust keeps in a
-- `BTreeMap` is such a list whose keys rise. An id is its own key; a segment's key is its id.
-- Assumes nothing.
use Rattle.std.specs.Prelude.{Bool, true, false, cond, List, [], ◌∷◌, ℕ, ◌<◌, eqb, ltb, Option, Some, None}

-- the first where there is one, else the second
abbrev pub or_else : {A : Type 0} → (x o : Option A) → Option A
or_else (Some a) o = Some a
or_else None o = o

-- there is one
abbrev pub is_some : {A : Type 0} → Option A → Bool
is_some (Some a) = true
is_some None = false

-- the entry, if it passes the test
abbrev pub only : {A : Type 0} → (A → Bool) → Option A → Option A
only p None = None
only p (Some a) = cond (p a) (Some a) None

-- the entries that pass the test, in their order
abbrev pub filter : {A : Type 0} → (A → Bool) → List A → List A
filter p [] = []
filter p (x ∷ xs) = cond (p x) (x ∷ filter p xs) (filter p xs)

-- a number is its own key
abbrev pub self : ℕ → ℕ
self n = n

module _ {A : Type 0} (key : A → ℕ) where
  -- the key is below the list's first
  abbrev pub Above : ℕ → List A → Type 0
  Above k [] = Unit {0}
  Above k (x ∷ xs) = k < key x

  -- keys rise strictly
  abbrev pub Rising : List A → Type 0
  Rising [] = Unit {0}
  Rising (x ∷ xs) = Above (key x) xs × Rising xs

  -- the entry with key k
  abbrev pub find : ℕ → List A → Option A
  find k [] = None
  find k (x ∷ xs) = cond (eqb k (key x)) (Some x) (find k xs)

  -- some entry has key k
  abbrev pub holds : ℕ → List A → Bool
  holds k xs = is_some (find k xs)

  -- x in its place, over an entry with its key
  abbrev pub insert : A → List A → List A
  insert x [] = x ∷ []
  insert x (y ∷ ys) = cond (ltb (key x) (key y)) (x ∷ (y ∷ ys)) (cond (eqb (key x) (key y)) (x ∷ ys) (y ∷ insert x ys))

  -- each entry of the first list inserted into the second
  abbrev pub insert_all : (xs ys : List A) → List A
  insert_all [] ys = ys
  insert_all (x ∷ xs) ys = insert x (insert_all xs ys)
