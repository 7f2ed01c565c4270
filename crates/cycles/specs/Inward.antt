-- The arms into each block, as lists that are linked through a table of ways.
use Rattle.std.specs.Prelude.{ℕ, zero, suc, ◌+◌, ◌≤◌, ◌<◌, ◌≡◌, cond, List, [], ◌∷◌, eqb, get_or, Option, None, Some}
use Rattle.limits.specs.Limits.{blocks, arms}
use Rattle.rules.proofs.Membership.{In}
use Rattle.records.specs.declared.Graph.{Graph}
use Rattle.cycles.specs.declared.Way.{Way}
use Rattle.cycles.specs.declared.Inward.{Inward}

-- way k
abbrev pub way : List Way → ℕ → Way
way ways k = get_or ways k (record { from = 0; next = None })

-- the list that starts at a way, or at none, within the first `top` ways; it goes down
abbrev pub Linked : List Way → ℕ → Option ℕ → List ℕ → Type 0
Linked ways top o [] = o ≡ None
Linked ways top o (m ∷ l) = (k : ℕ) × (o ≡ Some k) × (k < top) × ((way ways k).from ≡ m) × Linked ways k (way ways k).next l

-- the tables have the list f y for each block y
pub record Lists (t : Inward) (f : ℕ → List ℕ) : Type 0 where
  pub fits : t.len ≤ arms
  pub linked : (y : ℕ) → Linked t.ways t.len (get_or t.head y None) (f y)
  pub low : (y x : ℕ) → In x (f y) → x < blocks

-- the tables have lists
pub record HasLists (t : Inward) : Type 0 where
  pub lists : ℕ → List ℕ
  pub has : Lists t lists

-- block m is put before the others of block t's list
unfoldable pub added : (ℕ → List ℕ) → ℕ → ℕ → ℕ → List ℕ
added f m t y = cond (eqb y t) (m ∷ f y) (f y)

-- the same for each of block m's first j arms from arm q on
unfoldable pub entered : (ℕ → List ℕ) → ℕ → List ℕ → ℕ → ℕ → ℕ → List ℕ
unfolding added
entered f m to q zero = f
entered f m to q (suc j) = added (entered f m to q j) m (get_or to (q + j) 0)

-- the blocks with an arm to block y, once for each arm of the first i listed
unfoldable pub ins : Graph → ℕ → ℕ → List ℕ
unfolding entered
ins t zero = λ y. []
ins t (suc i) = let m = get_or t.b.listed i 0 in entered (ins t i) m t.a.to (get_or t.a.first m 0) (get_or t.a.count m 0)
