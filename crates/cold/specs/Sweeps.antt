-- The blocks that join the cold ones, one after the other, until none does.
use Rattle.std.specs.Prelude.{ℕ, suc, ◌+◌, ◌<◌, ◌≡◌, Bool, true, false, cond, List, eqb, ltb, length, get_or, set}
use Rattle.limits.specs.Limits.{blocks}
use Rattle.rules.specs.Graph.{is_cold}
use Rattle.records.specs.declared.Graph.{Graph}
use Rattle.cold.specs.declared.ways.Ways.{Ways}
use Rattle.cold.specs.Ways.{Links, links_of, outs, at, ins, cold_ins, Linked, Adds, Adding, Added, Counted}

-- t with other marks
abbrev pub with_marks : Graph → List ℕ → Graph
with_marks t m = record t { b = record t.b { marks = m } }

-- block k joins: it is not the entry e and not cold, and its arms in, at least one, are all from cold blocks
unfoldable pub joining : ℕ → ℕ → ℕ → ℕ → ℕ → Bool
unfolding is_cold
joining k e marks arms cold = cond (eqb k e) false (cond (is_cold marks) false (cond (ltb 0 arms) (eqb arms cold) false))

-- the same of the block at place i, by a fresh count
unfoldable pub joins_at : Links → ℕ → List ℕ → ℕ → Bool
unfolding joining ins cold_ins
joins_at w e m i = joining (at w i) e (get_or m (at w i) 0) (ins w w.blocks (at w i)) (cold_ins w m w.blocks (at w i))

-- the marks with block k cold
unfoldable pub cooled : List ℕ → ℕ → List ℕ
cooled m k = set m k (get_or m k 0 + 2)

-- block k can be turned cold: there is room for its mark, and its arms can be counted
pub record Chills (t : Graph) (k : ℕ) (v : Ways) : Type 0 where
  pub below : k < blocks
  pub adds : is_cold (get_or t.b.marks k 0) ≡ false → Adds t.a k v.cold

-- what turning block k cold asks for: room for its mark and for its arms
pub record Chilling (t : Graph) (k : ℕ) (v : Ways) : Type 0 where
  pub below : k < blocks
  pub adds : is_cold (get_or t.b.marks k 0) ≡ false → Adding t.a k v.cold

-- block k joined, if r; else nothing changed
pub record Chilled (t : Graph) (v : Ways) (k e : ℕ) (t' : Graph) (v' : Ways) (r : Bool) : Type 0 where
  pub told : r ≡ joining k e (get_or t.b.marks k 0) (get_or v.ins k 0) (get_or v.cold k 0)
  pub graph : t' ≡ with_marks t (cond r (cooled t.b.marks k) t.b.marks)
  pub ins : v'.ins ≡ v.ins
  pub cold : r ≡ true → Added (outs t.a k) v.cold v'.cold
  pub still : r ≡ false → v'.cold ≡ v.cold

-- j blocks joined, one after the other
pub data Cools (w : Links) (e : ℕ) (m₀ : List ℕ) : ℕ → List ℕ → Type 0 where
  still : Cools w e m₀ 0 m₀
  next : {j : ℕ} {m : List ℕ} → Cools w e m₀ j m → (i : ℕ) → i < w.blocks → joins_at w e m i ≡ true → Cools w e m₀ (suc j) (cooled m (at w i))

-- what a sweep asks for: both tables as a fresh count has them
pub record Sweeps (t : Graph) (v : Ways) : Type 0 where
  pub linked : Linked (links_of t)
  pub sized : length t.b.marks ≡ blocks
  pub counts : Counted (links_of t) t.b.marks t.blocks v

-- from the graph t₀ on j blocks have joined, and the tables are as a fresh count has them
pub record Cooling (e : ℕ) (t₀ t : Graph) (v : Ways) (j : ℕ) : Type 0 where
  pub same : t ≡ with_marks t₀ t.b.marks
  pub cools : Cools (links_of t₀) e t₀.b.marks j t.b.marks
  pub sized : length t.b.marks ≡ blocks
  pub counts : Counted (links_of t₀) t.b.marks t₀.blocks v

-- after i places of a sweep over t₀: r says whether a block has joined
pub record Swept (e : ℕ) (t₀ : Graph) (i : ℕ) (t : Graph) (v : Ways) (r : Bool) : Type 0 where
  pub turns : ℕ
  pub cooling : Cooling e t₀ t v turns
  pub told : r ≡ ltb 0 turns
  pub quiet : r ≡ false → (k : ℕ) → k < i → joins_at (links_of t₀) e t.b.marks k ≡ false

-- no block joins any more
pub record Settled (e : ℕ) (t₀ t : Graph) : Type 0 where
  pub same : t ≡ with_marks t₀ t.b.marks
  pub turns : ℕ
  pub cools : Cools (links_of t₀) e t₀.b.marks turns t.b.marks
  pub sized : length t.b.marks ≡ blocks
  pub quiet : (i : ℕ) → i < t₀.blocks → joins_at (links_of t₀) e t.b.marks i ≡ false
