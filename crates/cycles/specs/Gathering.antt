-- The second walk: a table of pieces by block number, 0 for a block that is in none yet.
use Rattle.std.specs.Prelude.{ℕ, suc, ◌<◌, ◌≡◌, ◌⊎◌, List, map, get_or}
use Rattle.rules.proofs.Membership.{In}
use Rattle.rules.proofs.StackWalk.{Frame}

-- the blocks on a stack
unfoldable pub blocks_on : List Frame → List ℕ
blocks_on st = map (λ (f : Frame). f.block) st

-- the blocks of w that were in no piece are in piece c and on the stack
pub record Gathered (w : List ℕ) (c : ℕ) (p : List ℕ) (st : List ℕ) (q : List ℕ) (st' : List ℕ) : Type 0 where
  pub came : (x : ℕ) → (get_or q x 0 ≡ get_or p x 0) ⊎ ((get_or p x 0 ≡ 0) × (get_or q x 0 ≡ c) × In x w × In x st')
  pub whole : (x : ℕ) → In x w → 0 < get_or q x 0
  pub held : (x : ℕ) → In x st → In x st'
  pub only : (x : ℕ) → In x st' → In x st ⊎ ((get_or p x 0 ≡ 0) × (get_or q x 0 ≡ c) × In x w)

-- from the lists f: block x leads to r over blocks that are in no piece of p
pub data Back (f : ℕ → List ℕ) (p : List ℕ) (r : ℕ) : ℕ → Type 0 where
  here : {x : ℕ} → x ≡ r → Back f p r x
  over : {x y : ℕ} → Back f p r y → In x (f y) → get_or p x 0 ≡ 0 → Back f p r x

-- q has besides p the piece c of block r: all that lead to it
pub record Collected (f : ℕ → List ℕ) (r c : ℕ) (p q : List ℕ) : Type 0 where
  pub came : (x : ℕ) → (get_or q x 0 ≡ get_or p x 0) ⊎ ((get_or p x 0 ≡ 0) × (get_or q x 0 ≡ c) × Back f p r x)
  pub root : get_or q r 0 ≡ c
  pub shut : (y : ℕ) → get_or p y 0 ≡ 0 → 0 < get_or q y 0 → (x : ℕ) → In x (f y) → 0 < get_or q x 0

-- the pieces of the first i of an order: those of its blocks in turn that are in none yet
pub data Sorted (f : ℕ → List ℕ) (order : List ℕ) : ℕ → List ℕ → Type 0 where
  none : {p : List ℕ} → ((x : ℕ) → get_or p x 0 ≡ 0) → Sorted f order 0 p
  old : {i : ℕ} {p : List ℕ} → Sorted f order i p → 0 < get_or p (get_or order i 0) 0 → Sorted f order (suc i) p
  new : {i : ℕ} {p q : List ℕ} → Sorted f order i p → get_or p (get_or order i 0) 0 ≡ 0 → Collected f (get_or order i 0) (suc (get_or order i 0)) p q → Sorted f order (suc i) q
