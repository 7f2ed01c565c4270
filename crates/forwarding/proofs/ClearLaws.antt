-- The blocks as they are cleared in place are document 01's. Assumes nothing.
use Rattle.std.proofs.Common.{ℕ, zero, suc, ◌+◌, ◌≤◌, ◌<◌, ◌≡◌, refl, sym, ap, ◌∙◌, Bool, true, false, not, cond, ◌||◌, ◌&&◌, List, [], ◌∷◌, ◌++◌, map, eqb, length, get_or, set, length-set, get_or-set_same, get_or-set_other, arith}
use Rattle.std.specs.Prelude.{Option, None, Some, is_some}
use Rattle.std.proofs.Math.Seq.{set_out}
use mathlib.Core.Path.{ap₂}
use Rattle.limits.specs.Limits.{blocks}
use Rattle.lists.proofs.Choices.{cond_elim, split_bool, split_lt}
use Rattle.rules.specs.Lists.{pick}
use Rattle.rules.specs.Graph as graph
use Rattle.rules.specs.Graph.{is_dead, is_addressed}
use Rattle.rules.specs.Forward.{entered, cleared_block}
use Rattle.rules.proofs.Membership.{pick_ind, map_append}
use Rattle.records.specs.declared.Graph.{Graph}
use Rattle.records.specs.Tables.{arm_at, arms_from, leaves, block_at, up_to}
use Rattle.forwarding.specs.Forwards.{changed}
use Rattle.forwarding.specs.Steps.{useless_of, dead_of, clear_of, cleared}
use Rattle.forwarding.proofs.StepLaws.{stored}
use Rattle.forwarding.proofs.BlockMoves.{arms_same, up_to_same}

-- ---- the rule, by the numbers that the code asks
bare : graph.Block → graph.Block
bare x = record { number = x.number; marks = cond (is_dead x.marks) x.marks (x.marks + 4); end = x.end; weight = 0; arms = [] }

form : graph.Block → Option ℕ → Bool → graph.Block
unfolding bare
form x o t = elim o as (λ (o : Option ℕ). graph.Block) [ None ↦ x | Some m ↦ elim t as (λ (t : Bool). graph.Block) [ true ↦ x | false ↦ bare x ] ]

cleared_form : (goals : ℕ → Option ℕ) (m : graph.Graph) (x : graph.Block) → cleared_block goals m x ≡ form x (goals x.number) (entered m x.number || is_addressed x.marks)
unfolding cleared_block form bare
cleared_form goals m x = refl

form_is : (x : graph.Block) (o : Option ℕ) (u v : Bool) → form x o (u || v) ≡ cond (is_some o && not u && not v) (bare x) x
unfolding form
form_is x None u v = refl
form_is x (Some m) true v = refl
form_is x (Some m) false true = refl
form_is x (Some m) false false = refl

cleared_is : (goals : ℕ → Option ℕ) (m : graph.Graph) (x : graph.Block) (o : Option ℕ) (r : Bool) → goals x.number ≡ o → entered m x.number ≡ r
    → cleared_block goals m x ≡ cond (useless_of o r x.marks) (bare x) x
unfolding useless_of
cleared_is goals m x o r e f = cleared_form goals m x ∙ ap₂ (form x) e (ap (λ (t : Bool). t || is_addressed x.marks) f) ∙ form_is x o r (is_addressed x.marks)

-- ---- one entry of the tables
record Same (s z : Graph) (k : ℕ) : Type 0 where
  pub marks : get_or s.b.marks k 0 ≡ get_or z.b.marks k 0
  pub weight : get_or s.b.weight k 0 ≡ get_or z.b.weight k 0
  pub count : get_or s.a.count k 0 ≡ get_or z.a.count k 0

pub record Long (s : Graph) : Type 0 where
  pub marks : length s.b.marks ≡ blocks
  pub weight : length s.b.weight ≡ blocks
  pub count : length s.a.count ≡ blocks

set_less : (l : List ℕ) (k j : ℕ) → get_or (set l k 0) j 0 ≤ get_or l j 0
set_less l k j =
    split_lt k (length l)
    (λ h. rw (stored l k j 0 0 h) (cond_elim (λ (x : ℕ). x ≤ get_or l j 0) (eqb j k) 0 (get_or l j 0) (λ _. omega arith) (λ _. omega arith)))
    (λ h. rw (set_out l k 0 h) (omega arith))

-- ---- one block
module _ (onward : List (Option ℕ)) (reached : List Bool) where
  abbrev useless_at : Graph → ℕ → Bool
  useless_at s k = useless_of (get_or onward k None) (get_or reached k false) (get_or s.b.marks k 0)

  abbrev bared : Graph → ℕ → Graph
  bared s k = changed s (set s.b.marks k (dead_of (get_or s.b.marks k 0))) (set s.b.weight k 0) (set s.a.count k 0) s.a.to

  clear_ind : (P : Graph → Type 0) (k : ℕ) (s : Graph) → P (bared s k) → P s → P (clear_of onward reached k s)
  unfolding clear_of
  clear_ind P k s = pick_ind P (useless_at s k) (bared s k) s

  clear_yes : (k : ℕ) (s : Graph) → useless_at s k ≡ true → clear_of onward reached k s ≡ bared s k
  unfolding clear_of pick
  clear_yes k s e = rw e

  clear_no : (k : ℕ) (s : Graph) → useless_at s k ≡ false → clear_of onward reached k s ≡ s
  unfolding clear_of pick
  clear_no k s e = rw e

  clear_other : (k j : ℕ) (s : Graph) → (j ≡ k → ⊥) → Same (clear_of onward reached k s) s j
  clear_other k j s d =
      clear_ind (λ (z : Graph). Same z s j) k s
      (record { marks = get_or-set_other s.b.marks k j (dead_of (get_or s.b.marks k 0)) 0 d; weight = get_or-set_other s.b.weight k j 0 0 d; count = get_or-set_other s.a.count k j 0 0 d })
      (record { marks = refl; weight = refl; count = refl })

  clear_long : (k : ℕ) (s : Graph) → Long s → Long (clear_of onward reached k s)
  clear_long k s h =
      clear_ind Long k s
      (record {
        marks = length-set s.b.marks k (dead_of (get_or s.b.marks k 0)) ∙ h.marks;
        weight = length-set s.b.weight k 0 ∙ h.weight;
        count = length-set s.a.count k 0 ∙ h.count;
      })
      h

  -- no block gets more arms
  clear_fewer : (k j : ℕ) (s : Graph) → get_or (clear_of onward reached k s).a.count j 0 ≤ get_or s.a.count j 0
  clear_fewer k j s =
      clear_ind (λ (z : Graph). get_or z.a.count j 0 ≤ get_or s.a.count j 0) k s
      (set_less s.a.count k j)
      (omega arith)

  -- other tables stay
  clear_kept : (t s : Graph) (k : ℕ) → s ≡ changed t s.b.marks s.b.weight s.a.count t.a.to
      → clear_of onward reached k s ≡ changed t (clear_of onward reached k s).b.marks (clear_of onward reached k s).b.weight (clear_of onward reached k s).a.count t.a.to
  clear_kept t s k e =
      clear_ind (λ (z : Graph). z ≡ changed t z.b.marks z.b.weight z.a.count t.a.to) k s
      (ap (λ (z : Graph). changed z (set s.b.marks k (dead_of (get_or s.b.marks k 0))) (set s.b.weight k 0) (set s.a.count k 0) z.a.to) e)
      e

-- ---- all blocks, in their order
module _ (onward : List (Option ℕ)) (reached : List Bool) (t : Graph) where
  abbrev c : ℕ → Graph
  c i = cleared onward reached t i

  pub kept : (i : ℕ) → c i ≡ changed t (c i).b.marks (c i).b.weight (c i).a.count t.a.to
  unfolding cleared
  kept zero = refl
  kept (suc i) = clear_kept onward reached t (c i) (get_or t.b.listed i 0) (kept i)

  pub listed_kept : (i : ℕ) → (c i).b.listed ≡ t.b.listed
  listed_kept i = ap (λ (z : Graph). z.b.listed) (kept i)

  pub fewer : (i k : ℕ) → get_or (c i).a.count k 0 ≤ get_or t.a.count k 0
  unfolding cleared
  fewer zero k = omega arith
  fewer (suc i) k = omega (arith, clear_fewer onward reached (get_or t.b.listed i 0) k (c i), fewer i k)

  -- a block by the tables that change
  abbrev plainly : ℕ → ℕ → ℕ → ℕ → graph.Block
  plainly k m v n = record { number = k; marks = m; end = get_or t.b.ends k 0; weight = v; arms = arms_from t.a (get_or t.a.first k 0) n }

  block_is : (s : Graph) (k : ℕ) → s ≡ changed t s.b.marks s.b.weight s.a.count t.a.to → block_at s.b s.a k ≡ plainly k (get_or s.b.marks k 0) (get_or s.b.weight k 0) (get_or s.a.count k 0)
  unfolding block_at leaves arm_at
  block_is s k e =
      ap (λ (z : Graph). block_at z.b z.a k) e
      ∙ ap (λ (l : List graph.Arm). record { number = k; marks = get_or s.b.marks k 0; end = get_or t.b.ends k 0; weight = get_or s.b.weight k 0; arms = l })
      (arms_same (record t.a { count = s.a.count }) t.a (get_or s.a.count k 0) (get_or t.a.first k 0) (λ q l m. refl))

  module _ (start : Long t) where
    pub cleared_long : (i : ℕ) → Long (c i)
    unfolding cleared
    cleared_long zero = start
    cleared_long (suc i) = clear_long onward reached (get_or t.b.listed i 0) (c i) (cleared_long i)

    module _ (goals : ℕ → Option ℕ) (m : graph.Graph)
        (once : (i j : ℕ) → i < t.blocks → j < t.blocks → get_or t.b.listed i 0 ≡ get_or t.b.listed j 0 → i ≡ j)
        (below : (i : ℕ) → i < t.blocks → get_or t.b.listed i 0 < blocks)
        (known : (i : ℕ) → i < t.blocks → goals (get_or t.b.listed i 0) ≡ get_or onward (get_or t.b.listed i 0) None)
        (in_to : (k : ℕ) → entered m k ≡ get_or reached k false) where
      same_block : (i j k : ℕ) → Same (c i) (c j) k → block_at (c i).b (c i).a k ≡ block_at (c j).b (c j).a k
      same_block i j k h = block_is (c i) k (kept i) ∙ rw (h.marks, h.weight, h.count) (sym (block_is (c j) k (kept j)))

      later : (i j : ℕ) → i ≤ j → j < t.blocks → Same (c i) t (get_or t.b.listed j 0)
      unfolding cleared
      later zero j l h = record { marks = refl; weight = refl; count = refl }
      later (suc i) j l h =
          let x = clear_other onward reached (get_or t.b.listed i 0) (get_or t.b.listed j 0) (c i) (λ e. omega (arith, l, once j i h (omega (arith, l, h)) e)) in
          let y = later i j (omega (arith, l)) h in
          record { marks = x.marks ∙ y.marks; weight = x.weight ∙ y.weight; count = x.count ∙ y.count }

      module _ (i : ℕ) (l : i < t.blocks) where
        abbrev k : ℕ
        k = get_or t.b.listed i 0

        -- a turn changes no block that came before
        stays : (j : ℕ) → j < i → block_at (c (suc i)).b (c (suc i)).a (get_or t.b.listed j 0) ≡ block_at (c i).b (c i).a (get_or t.b.listed j 0)
        stays j h =
            same_block (suc i) i (get_or t.b.listed j 0)
            (unfold cleared in clear_other onward reached k (get_or t.b.listed j 0) (c i) (λ e. omega (arith, h, once j i (omega (arith, l, h)) l e)))

        before_stay : up_to (c (suc i)).b (c (suc i)).a i ≡ up_to (c i).b (c i).a i
        before_stay = up_to_same (c (suc i)).b (c i).b (c (suc i)).a (c i).a i (λ j h. rw (listed_kept (suc i), listed_kept i) (stays j h))

        -- the block whose turn it is
        rule : cleared_block goals m (block_at t.b t.a k) ≡ cond (useless_at onward reached t k) (bare (block_at t.b t.a k)) (block_at t.b t.a k)
        unfolding block_at
        rule = cleared_is goals m (block_at t.b t.a k) (get_or onward k None) (get_or reached k false) (known i l) (in_to k)

        same : Same (c i) t k
        same = later i i (omega arith) l

        yes : useless_at onward reached t k ≡ true → block_at (c (suc i)).b (c (suc i)).a k ≡ bare (block_at t.b t.a k)
        unfolding bare block_at arms_from dead_of cleared
        yes e =
            let u : useless_at onward reached (c i) k ≡ true = rw same.marks e in
            let z : c (suc i) ≡ bared onward reached (c i) k = clear_yes onward reached k (c i) u in
            block_is (c (suc i)) k (kept (suc i))
            ∙ ap (λ (x : Graph). plainly k (get_or x.b.marks k 0) (get_or x.b.weight k 0) (get_or x.a.count k 0)) z
            ∙ rw (
              get_or-set_same (c i).b.marks k (dead_of (get_or (c i).b.marks k 0)) 0 (omega (arith, below i l, (cleared_long i).marks)),
              get_or-set_same (c i).b.weight k 0 0 (omega (arith, below i l, (cleared_long i).weight)),
              get_or-set_same (c i).a.count k 0 0 (omega (arith, below i l, (cleared_long i).count)),
              same.marks,
            )

        no : useless_at onward reached t k ≡ false → block_at (c (suc i)).b (c (suc i)).a k ≡ block_at t.b t.a k
        unfolding cleared
        no e =
            let u : useless_at onward reached (c i) k ≡ false = rw same.marks e in
            let z : c (suc i) ≡ c i = clear_no onward reached k (c i) u in
            ap (λ (x : Graph). block_at x.b x.a k) z ∙ same_block i 0 k same

        here : block_at (c (suc i)).b (c (suc i)).a k ≡ cleared_block goals m (block_at t.b t.a k)
        here = split_bool (useless_at onward reached t k) (λ e. yes e ∙ sym (rule ∙ rw e)) (λ e. no e ∙ sym (rule ∙ rw e))

      pub all_cleared : (i : ℕ) → i ≤ t.blocks → up_to (c i).b (c i).a i ≡ map (cleared_block goals m) (up_to t.b t.a i)
      unfolding up_to
      all_cleared zero l = refl
      all_cleared (suc i) l =
          let h : i < t.blocks = omega (arith, l) in
          rw (listed_kept (suc i))
          (ap₂ (λ (g : graph.Graph) (x : graph.Block). g ++ (x ∷ [])) (before_stay i h ∙ all_cleared i (omega (arith, l))) (here i h)
          ∙ sym (map_append (cleared_block goals m) (up_to t.b t.a i) (block_at t.b t.a (get_or t.b.listed i 0) ∷ [])))
