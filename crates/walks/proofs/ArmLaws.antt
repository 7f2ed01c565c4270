-- The arms of a block, the last first, as the tables have them. Assumes nothing.
use Rattle.std.proofs.Common.{ℕ, zero, suc, ◌+◌, ◌-◌, ◌≤◌, ◌<◌, ◌≡◌, List, [], ◌∷◌, length, get_or, refl, ap, ◌∙◌, arith, map, reverse}
use Rattle.std.proofs.lemmas.List.{reverse-append}
use Rattle.limits.specs.Limits.{blocks, arms}
use Rattle.rules.specs.Graph as graph
use Rattle.rules.specs.Graph.{numbers_of, targets}
use Rattle.rules.proofs.Membership.{In, map_append}
use Rattle.rules.proofs.PlainVisit.{todo}
use Rattle.records.specs.declared.Arms.{Arms}
use Rattle.records.specs.declared.Graph.{Graph}
use Rattle.records.specs.Tables.{arm_at, arms_from, leaves, block_at, tabled}
use Rattle.records.proofs.TableLaws.{arms_more}
use Rattle.records.proofs.StandLaws.{in_listed, find_in}
use Rattle.walks.specs.Walking.{Walkable, ArmsOf}

-- where n arms from arm f on go, the last first
unfoldable pub last_first : List ℕ → ℕ → ℕ → List ℕ
last_first to f zero = []
last_first to f (suc n) = get_or to (f + n) 0 ∷ last_first to f n

last_length : (to : List ℕ) (f n : ℕ) → length (last_first to f n) ≡ n
unfolding last_first
last_length to f zero = refl
last_length to f (suc n) = ap suc (last_length to f n)

last_get : (to : List ℕ) (f n k : ℕ) → k < n → get_or (last_first to f n) k 0 ≡ get_or to (f + (n - 1 - k)) 0
unfolding last_first
last_get to f zero k h = absurd (omega (arith, h))
last_get to f (suc n) zero h = let e : n ≡ suc n - 1 - 0 = omega arith in ap (λ (q : ℕ). get_or to (f + q) 0) e
last_get to f (suc n) (suc k) h =
    let e : n - 1 - k ≡ suc n - 1 - suc k = omega arith in
    last_get to f n k (omega (arith, h)) ∙ ap (λ (q : ℕ). get_or to (f + q) 0) e

leaves_last : (a : Arms) (f n : ℕ) → reverse (map (λ (x : graph.Arm). x.to) (arms_from a f n)) ≡ last_first a.to f n
unfolding last_first arms_from arm_at
leaves_last a f zero = refl
leaves_last a f (suc n) =
    ap (λ (l : List graph.Arm). reverse (map (λ (x : graph.Arm). x.to) l)) (arms_more a n f)
    ∙ ap reverse (map_append (λ (x : graph.Arm). x.to) (arms_from a f n) (arm_at a (f + n) ∷ []))
    ∙ reverse-append (map (λ (x : graph.Arm). x.to) (arms_from a f n)) (get_or a.to (f + n) 0 ∷ [])
    ∙ ap (λ (l : List ℕ). get_or a.to (f + n) 0 ∷ l) (leaves_last a f n)

-- ---- in a graph that the tables have
module _ {a : Arms} {h : graph.Graph} (has : ArmsOf a h) (n : ℕ) (i : In n (numbers_of h)) where
  todo_last : todo h n ≡ last_first a.to (get_or a.first n 0) (get_or a.count n 0)
  unfolding leaves
  todo_last = has.same n i ∙ leaves_last a (get_or a.first n 0) (get_or a.count n 0)

  pub todo_length : length (todo h n) ≡ get_or a.count n 0
  todo_length = ap length todo_last ∙ last_length a.to (get_or a.first n 0) (get_or a.count n 0)

  pub todo_get : (k : ℕ) → k < get_or a.count n 0 → get_or (todo h n) k 0 ≡ get_or a.to (get_or a.first n 0 + (get_or a.count n 0 - 1 - k)) 0
  todo_get k l = ap (λ (q : List ℕ). get_or q k 0) todo_last ∙ last_get a.to (get_or a.first n 0) (get_or a.count n 0) k l

  pub todo_few : length (todo h n) ≤ arms
  todo_few = omega (arith, todo_length, has.within n i)

-- ---- in the graph that they carry
module _ (t : Graph) (s : Walkable t) where
  pub low : (n : ℕ) → In n (numbers_of (tabled t)) → n < blocks
  unfolding tabled
  low n i = let r = in_listed t.b t.a n t.blocks i in omega (arith, s.stands.below r.0 r.1, r.2)

  todo_same : (n : ℕ) → In n (numbers_of (tabled t)) → todo (tabled t) n ≡ reverse (map (λ (x : graph.Arm). x.to) (leaves t.a n))
  unfolding tabled todo targets block_at
  todo_same n i = ap (λ (x : graph.Block). reverse (targets x)) (find_in t.b t.a t.blocks n i)

  pub fitting_has : ArmsOf t.a (tabled t)
  fitting_has = record { whole = s.whole; low = low; within = λ n i. s.stands.fits n; same = todo_same }

  pub todo_is : (n : ℕ) → In n (numbers_of (tabled t)) → todo (tabled t) n ≡ last_first t.a.to (get_or t.a.first n 0) (get_or t.a.count n 0)
  todo_is n i = todo_last fitting_has n i
