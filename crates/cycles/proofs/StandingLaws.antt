-- Tables that carry a graph: their lists of arms in are its ways in. Assumes nothing.
use Rattle.std.proofs.Common.{ℕ, zero, suc, ◌+◌, ◌≤◌, ◌<◌, ◌≡◌, inl, inr, List, [], ◌∷◌, ◌++◌, length, get_or, refl, sym, ap, ◌∙◌, subst, arith, add-one}
use Rattle.limits.specs.Limits.{blocks, arms}
use Rattle.lists.proofs.Choices.{split_lt}
use Rattle.rules.specs.Graph as graph
use Rattle.rules.specs.Graph.{numbers_of}
use Rattle.rules.specs.Within.{arm_total}
use Rattle.rules.proofs.Membership.{In}
use Rattle.rules.proofs.PlainVisit.{todo, todo_listed}
use Rattle.rules.proofs.TwoWalks.{finished}
use Rattle.records.specs.declared.Blocks.{Blocks}
use Rattle.records.specs.declared.Arms.{Arms}
use Rattle.records.specs.declared.Graph.{Graph}
use Rattle.records.specs.Tables.{block_at, up_to, tabled, Back}
use Rattle.records.proofs.TableLaws.{leaves_count}
use Rattle.records.proofs.StandLaws.{listed_in, in_listed, once_apart}
use Rattle.walks.proofs.ArmLaws.{last_first, low, todo_is}
use Rattle.walks.proofs.GraphLaws.{fitting_walks, walks_fitting}
use Rattle.cycles.specs.Inward.{ins}
use Rattle.cycles.specs.Gathering.{Sorted}
use Rattle.cycles.specs.Pieces.{Linkable, Gatherable, PiecesOf}
use Rattle.cycles.proofs.InwardLaws.{Arm, ins_from, from_ins}
use Rattle.cycles.proofs.PieceLaws.{Inwards, finished_listed, sorted_exact}

-- ---- the arms of a block
last_in : (to : List ℕ) (f n j : ℕ) → j < n → In (get_or to (f + j) 0) (last_first to f n)
unfolding last_first
last_in to f zero j h = absurd (omega (arith, h))
last_in to f (suc n) j h = split_lt j n (λ l. inr (last_in to f n j l)) (λ l. let e : j ≡ n = omega (arith, h, l) in inl (ap (λ (k : ℕ). get_or to (f + k) 0) e))

in_last : (to : List ℕ) (f n y : ℕ) → In y (last_first to f n) → Arm to f n y
unfolding last_first
in_last to f zero y i = absurd i
in_last to f (suc n) y (inl e) = record { arm = n; below = omega arith; goes = sym e }
in_last to f (suc n) y (inr i) = let a = in_last to f n y i in record { arm = a.arm; below = omega (arith, a.below); goes = a.goes }

-- ---- how many there are
total_append : (g : graph.Graph) (x : graph.Block) → arm_total (g ++ (x ∷ [])) ≡ arm_total g + length x.arms
unfolding arm_total
total_append [] x = omega arith
total_append (y ∷ g) x = omega (arith, total_append g x)

-- the first i listed blocks' arms
pub armed : Blocks → Arms → ℕ → ℕ
armed b a i = arm_total (up_to b a i)

module _ (b : Blocks) (a : Arms) where
  pub armed_none : 0 ≡ armed b a 0
  unfolding armed up_to arm_total
  armed_none = refl

  pub armed_more : (i : ℕ) → armed b a (i + 1) ≡ armed b a i + get_or a.count (get_or b.listed i 0) 0
  unfolding armed up_to block_at
  armed_more i = rw add-one (total_append (up_to b a i) (block_at b a (get_or b.listed i 0)) ∙ omega (arith, leaves_count a (get_or b.listed i 0)))

  armed_grows : (i n : ℕ) → i ≤ n → armed b a i ≤ armed b a n
  armed_grows i zero h = let e : i ≡ 0 = omega (arith, h) in rw e (omega arith)
  armed_grows i (suc n) h = split_lt i (suc n) (λ l. let more : armed b a (n + 1) ≡ armed b a n + get_or a.count (get_or b.listed n 0) 0 = armed_more n in omega (arith, armed_grows i n (omega (arith, l)), rw add-one at more)) (λ l. let e : i ≡ suc n = omega (arith, h, l) in rw e (omega arith))

-- a graph that the tables stand for is one that they carry, and where `place` is the way back one that they carry is one they stand for
module _ {t : Graph} where
  pub linkable_gathers : Linkable t → Gatherable t
  linkable_gathers s = record { fitting = fitting_walks s.fitting; few_arms = s.few_arms }

  pub gathers_linkable : Gatherable t → Back t → Linkable t
  gathers_linkable s b = record { fitting = walks_fitting s.fitting b; few_arms = s.few_arms }

module _ (t : Graph) (s : Gatherable t) where
  place_in : (i : ℕ) → i < t.blocks → In (get_or t.b.listed i 0) (numbers_of (tabled t))
  unfolding tabled
  place_in i h = listed_in t.b t.a i t.blocks h

  pub ways : Inwards (tabled t) (ins t t.blocks)
  unfolding tabled
  ways = record { sound = sound; complete = complete }
    where
      sound : (x y : ℕ) → In x (ins t t.blocks y) → In x (numbers_of (tabled t)) × In y (todo (tabled t) x)
      sound x y i =
          let a = ins_from t t.blocks y x i in
          let j : In x (numbers_of (tabled t)) = subst (λ (z : ℕ). In z (numbers_of (tabled t))) a.listed_is (place_in a.place a.within) in
          let k : In y (last_first t.a.to (get_or t.a.first x 0) (get_or t.a.count x 0)) = subst (λ (z : ℕ). In z (last_first t.a.to (get_or t.a.first x 0) (get_or t.a.count x 0))) a.arm.goes (last_in t.a.to (get_or t.a.first x 0) (get_or t.a.count x 0) a.arm.arm a.arm.below) in
          (j, subst (λ (l : List ℕ). In y l) (sym (todo_is t s.fitting x j)) k)

      complete : (x y : ℕ) → In x (numbers_of (tabled t)) → In y (todo (tabled t) x) → In x (ins t t.blocks y)
      complete x y i j =
          let r = in_listed t.b t.a x t.blocks i in
          from_ins t t.blocks y x
          (record { place = r.0; within = r.1; listed_is = r.2; arm = in_last t.a.to (get_or t.a.first x 0) (get_or t.a.count x 0) y (subst (λ (l : List ℕ). In y l) (todo_is t s.fitting x i) j) })

  -- an arm of a listed block goes to one
  pub goes : (i : ℕ) → i < t.blocks → (j : ℕ) → j < get_or t.a.count (get_or t.b.listed i 0) 0 → get_or t.a.to (get_or t.a.first (get_or t.b.listed i 0) 0 + j) 0 < blocks
  goes i h j k =
      let m = get_or t.b.listed i 0 in
      let y = get_or t.a.to (get_or t.a.first m 0 + j) 0 in
      let q : In y (todo (tabled t) m) = subst (λ (z : List ℕ). In y z) (sym (todo_is t s.fitting m (place_in i h))) (last_in t.a.to (get_or t.a.first m 0) (get_or t.a.count m 0) j k) in
      low t s.fitting y (todo_listed (tabled t) s.fitting.whole m (place_in i h) y q)

  -- there is room for the arms of one listed block more
  pub arms_room : (i : ℕ) → i < t.blocks → armed t.b t.a i + get_or t.a.count (get_or t.b.listed i 0) 0 ≤ arms
  unfolding tabled armed
  arms_room i h = omega (arith, s.few_arms, armed_more t.b t.a i, armed_grows t.b t.a (i + 1) t.blocks (omega (arith, h)))

  -- ---- the order that the first walk gives
  module _ (o : List ℕ) (is : o ≡ finished (tabled t)) where
    pub order_low : (x : ℕ) → In x o → x < blocks
    order_low x i = low t s.fitting x (finished_listed (tabled t) s.fitting.whole x (subst (λ (l : List ℕ). In x l) is i))

    pub pieces_of : (p : List ℕ) → Sorted (ins t t.blocks) o (length o) p → PiecesOf (tabled t) p
    unfolding tabled
    pieces_of p h = record {
      exact = sorted_exact (tabled t) (ins t t.blocks) ways s.fitting.whole (once_apart t.b t.a t.blocks s.fitting.stands.once) (finished (tabled t)) p (λ i k. refl) (subst (λ (l : List ℕ). Sorted (ins t t.blocks) l (length l) p) is h);
    }
