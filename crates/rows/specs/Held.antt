-- What an append list over lent memory holds, and what each call changes.
use Rattle.std.specs.Prelude.{◌≡◌, ℕ, ◌+◌, ◌<◌, ◌≤◌, List, [], ◌∷◌, ◌++◌, length, take, drop, slice_index_or, slice_set}

-- the rows appended: the first n of the memory
abbrev pub held : {A : Type 0} → List A → ℕ → List A
held memory n = take n memory

-- a row was appended to a list of n rows, which has m rows then
pub record Appended {A : Type 0} (row : A) (before : List A) (n : ℕ) (after : List A) (m : ℕ) : Type 0 where
  pub fits : n < length before
  pub count : m ≡ n + 1
  pub stored : after ≡ slice_set before n row
  pub grown : held after m ≡ held before n ++ (row ∷ [])
  pub rest : drop (n + 1) after ≡ drop (n + 1) before

-- the memory is full, and all is as it was
pub record Refused {A : Type 0} (before : List A) (n : ℕ) (after : List A) (m : ℕ) : Type 0 where
  pub full : length before ≤ n
  pub count : m ≡ n
  pub same : after ≡ before

-- the list has a row at this place
pub record Present {A : Type 0} (memory : List A) (n at : ℕ) : Type 0 where
  pub appended : at < n
  pub inside : at < length memory

-- the list has no row at this place
abbrev pub Absent : {A : Type 0} → List A → ℕ → ℕ → Type 0
Absent memory n at = at < n → length memory ≤ at

-- the row of a place
pub record Row {A : Type 0} (memory : List A) (n at : ℕ) (row : A) : Type 0 where
  pub present : Present memory n at
  pub is : row ≡ slice_index_or memory at row

-- the row of a place was replaced
pub record Replaced {A : Type 0} (row : A) (before : List A) (n at : ℕ) (after : List A) : Type 0 where
  pub present : Present before n at
  pub stored : after ≡ slice_set before at row

-- there is no row to replace, and all is as it was
pub record Kept {A : Type 0} (before : List A) (n at : ℕ) (after : List A) : Type 0 where
  pub absent : Absent before n at
  pub same : after ≡ before
