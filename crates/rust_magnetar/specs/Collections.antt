-- Public: `Vec`, slices and iterators of the Rust, and the methods that the sources call.
-- Assumes nothing.
use Rattle.std.specs.Prelude.{ℕ, ◌+◌, Bool, true, false, cond, ◌&&◌, ◌||◌, List, [], ◌∷◌, Option, Some, None}
use Rattle.rust_magnetar.specs.Result.{Result, Ok, ◌>>=◌}

-- ---- Vec

-- ==
abbrev pub Vec-eq : {A : Type 0} → (A → A → Bool) → List A → List A → Bool
Vec-eq eq [] [] = true
Vec-eq eq [] (y ∷ ys) = false
Vec-eq eq (x ∷ xs) [] = false
Vec-eq eq (x ∷ xs) (y ∷ ys) = eq x y && Vec-eq eq xs ys

-- .sort_by_key(..), which is stable; and .sort_unstable(), where elements that compare as equal are identical
abbrev pub insert-by : {A : Type 0} → (A → A → Bool) → A → List A → List A
insert-by le x [] = x ∷ []
insert-by le x (y ∷ ys) = cond (le x y) (x ∷ (y ∷ ys)) (y ∷ insert-by le x ys)

abbrev pub sort-by : {A : Type 0} → (A → A → Bool) → List A → List A
sort-by le [] = []
sort-by le (x ∷ xs) = insert-by le x (sort-by le xs)

-- .windows(2).any(|pair| test(pair[0], pair[1]))
abbrev pub windows-any : {A : Type 0} → (A → A → Bool) → List A → Bool
windows-any test [] = false
windows-any test (a ∷ []) = false
windows-any test (a ∷ (b ∷ l)) = test a b || windows-any test (b ∷ l)

-- .iter().enumerate().map(|(index, x)| f(index, x)), where the first has that index
abbrev pub enumerate-map : {A B : Type 0} → (ℕ → A → B) → ℕ → List A → List B
enumerate-map f index [] = []
enumerate-map f index (x ∷ xs) = f index x ∷ enumerate-map f (index + 1) xs

-- .collect::<Result<Vec<_>, _>>()
abbrev pub collect-results : {A E : Type 0} → List (Result A E) → Result (List A) E
collect-results [] = Ok []
collect-results (result ∷ rest) = do
  x ← result
  xs ← collect-results rest
  Ok (x ∷ xs)

-- .iter().filter(test)
abbrev pub filter : {A : Type 0} → (A → Bool) → List A → List A
filter test [] = []
filter test (x ∷ xs) = cond (test x) (x ∷ filter test xs) (filter test xs)

-- ---- Option

-- option.is_none_or(test)
abbrev pub is-none-or : {A : Type 0} → (A → Bool) → Option A → Bool
is-none-or test None = true
is-none-or test (Some v) = test v
