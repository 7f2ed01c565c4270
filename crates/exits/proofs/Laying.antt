-- The tables while an order is laid. Assumes nothing.
use Rattle.std.proofs.Common.{ℕ, zero, suc, ◌+◌, ◌-◌, ◌≤◌, ◌<◌, ◌≡◌, Bool, true, cond, List, [], ◌∷◌, ◌++◌, length, get_or, refl, sym, ap, ◌∙◌, subst, arith, add-zero, add-suc, append_assoc}
use Rattle.std.specs.Prelude.{Option}
use lib.ListN.{set, length-set}
use lib.Seq.{get_or-set_same, get_or-set_other}
use borrow.Author.Tests.{le-leb, lt-leb}
use Rattle.limits.specs.Limits as most
use Rattle.rules.specs.declared.Leaving.{Leaving}
use Rattle.rules.specs.declared.Leaving.TheVariants.{Bridge}
use Rattle.rules.specs.Graph.{Arm, with_arms}
use Rattle.rules.specs.Exits.{Place, no_arm, exit_of, laid_block, bridge_for, bridge_of, new_after}
use Rattle.records.specs.declared.Arms.{Arms}
use Rattle.records.specs.declared.Graph.{Graph}
use Rattle.records.specs.Tables.{arm_at, arms_from, leaves, block_at}
use Rattle.records.proofs.TableLaws.{arms_kept, leaves_count}
use Rattle.exits.specs.declared.Laid.{Laid}
use Rattle.exits.specs.Lays.{Left, BridgeWithin, cold_at, places_of, arms_to, Orderly, with_arm, with_place, with_bridge}
use Rattle.exits.proofs.Steps.{leave_at, new_to, laid_at, laid_to, Sized, Placed, at, Laying}
use Rattle.exits.proofs.Decisions.{edges_within, Bridgeless, bridge_none}
use Rattle.exits.proofs.LeftArms.{arms_get, put_same, put_other}
use Rattle.exits.proofs.Adding.{Only, added, new_place, places_more, placed_more, sized_more}

-- what there is room for when block n with c arms is laid next
pub record Room (l : Laid) (c n : ℕ) : Type 0 where
  pub n_low : n < most.numbers
  pub new_low : most.numbers + l.bridges < most.blocks
  pub place : suc l.graph.blocks < most.blocks
  pub arm : l.graph.arms + c < most.arms

module _ (g : Graph) (o : List ℕ) (split : Option ℕ) where
  arms_to_le : (i k : ℕ) → arms_to g.a.count o i ≤ arms_to g.a.count o (i + k)
  unfolding arms_to
  arms_to_le i zero = rw add-zero (omega arith)
  arms_to_le i (suc k) = rw add-suc (omega (arith, arms_to_le i k))

  arms_room : Orderly g.a.count o → (i : ℕ) → i < length o → arms_to g.a.count o i + get_or g.a.count (get_or o i 0) 0 ≤ most.most_arms
  unfolding arms_to
  arms_room r i h =
      let e : suc i + (length o - suc i) ≡ length o = omega (arith, h) in
      omega (arith, subst (λ (n : ℕ). arms_to g.a.count o (suc i) ≤ arms_to g.a.count o n) e (arms_to_le (suc i) (length o - suc i)), r.total)

  module _ (l : Laid) (i : ℕ) (y : Laying g o split l i) (r : Orderly g.a.count o) (h : i < length o) (n : ℕ) (ne : get_or o i 0 ≡ n) where
    abbrev c : ℕ
    c = get_or g.a.count n 0

    abbrev new : ℕ
    new = most.numbers + l.bridges

    room_arms : arms_to g.a.count o i + c ≤ most.most_arms
    room_arms = omega (arith, ap (λ (m : ℕ). get_or g.a.count m 0) ne, arms_room r i h)

    pub room : Room l (get_or g.a.count n 0) n
    room = record {
      n_low = omega (arith, ne, r.low i h);
      new_low = omega (arith, y.few, r.few, h);
      place = omega (arith, y.p_is, y.few, r.few, h);
      arm = omega (arith, y.q_is, room_arms, y.few, r.few, h);
    }

    -- a bridge takes one of the block's arms
    pub bridge_within : (v : Leaving) → leave_at (at g) o split i ≡ v → BridgeWithin (get_or g.a.count n 0) v
    unfolding leave_at block_at
    bridge_within v ve =
        subst (BridgeWithin c) ve
        (subst (λ (x : ℕ). BridgeWithin x (leave_at (at g) o split i)) (leaves_count g.a (get_or o i 0) ∙ ap (λ (m : ℕ). get_or g.a.count m 0) ne) (edges_within _ _ (leaves g.a (get_or o i 0))))

    -- a is what leaving the block makes of the arms
    module _ (v : Leaving) (ve : leave_at (at g) o split i ≡ v) (a : Arms) (le : Left g.a n v (most.numbers + l.bridges) l.graph.a l.graph.arms a) where
      abbrev digit : ℕ
      digit = exit_of (get_or g.b.ends n 0) v

      -- the block is laid
      abbrev pub l₁ : Laid
      l₁ = added l n c digit l.graph.b.marks l.graph.b.ends l.graph.b.weight a.to a.args a.weight

      only : Only l n c digit l.graph.b.marks l.graph.b.ends l.graph.b.weight a.to a.args a.weight
      unfolding arm_at
      only = record { same_marks = λ x f. refl; same_ends = λ x f. refl; same_weight = λ x f. refl; same_arms = le.below }

      fresh : get_or l.graph.b.place n 0 ≡ 0
      fresh = ap (λ (m : ℕ). get_or l.graph.b.place m 0) (sym ne) ∙ y.unlaid i (omega arith) h

      roomy : n < most.blocks
      roomy = omega (arith, room.n_low)

      more : l.graph.blocks < most.blocks
      more = omega (arith, room.place)

      arms_same : (b d : Arms) → b.to ≡ d.to → b.args ≡ d.args → b.weight ≡ d.weight → (k f : ℕ) → arms_from b f k ≡ arms_from d f k
      unfolding arm_at
      arms_same b d t x w k f = arms_kept b d (f + k) (λ z _. rw (t, x, w)) k f (omega arith)

      laid_block_is : new_place l n c digit l.graph.b.marks l.graph.b.ends l.graph.b.weight a.to a.args a.weight y.sized y.placed only fresh roomy more ≡ laid_block new (at g n) v
      unfolding laid_block with_arms block_at
      laid_block_is =
          rw (
            lt-leb most.numbers n room.n_low,
            y.marks n room.n_low,
            y.ends n room.n_low,
            y.weight n room.n_low,
            arms_same (record { first = set l.graph.a.first n l.graph.arms; count = set l.graph.a.count n c; to = a.to; args = a.args; weight = a.weight }) a refl refl refl c l.graph.arms,
            le.left,
          )

      block_placed : Placed l₁
      block_placed = placed_more l n c digit l.graph.b.marks l.graph.b.ends l.graph.b.weight a.to a.args a.weight y.sized y.placed only fresh roomy more

      block_sized : Sized l₁
      block_sized = sized_more l n c digit l.graph.b.marks l.graph.b.ends l.graph.b.weight a.to a.args a.weight y.sized y.placed only fresh roomy more y.sized.blocks.marks y.sized.blocks.ends y.sized.blocks.weight le.sized.to le.sized.args le.sized.weight

      block_places : places_of l₁ ≡ laid_to (at g) o split i ++ (laid_block new (at g n) v ∷ [])
      block_places =
          places_more l n c digit l.graph.b.marks l.graph.b.ends l.graph.b.weight a.to a.args a.weight y.sized y.placed only fresh roomy more
          ∙ ap (λ (x : Place). places_of l ++ (x ∷ [])) laid_block_is ∙ ap (λ (x : List Place). x ++ (laid_block new (at g n) v ∷ [])) y.places

      next_new : (u : Leaving) → v ≡ u → new_to (at g) o split (suc i) ≡ new_after new u
      unfolding new_to
      next_new u z = ap (λ (w : Leaving). new_after (new_to (at g) o split i) w) (ve ∙ z) ∙ ap (λ (x : ℕ). new_after x u) y.new_is

      next_places : laid_to (at g) o split (suc i) ≡ laid_to (at g) o split i ++ (laid_block new (at g n) v ∷ bridge_of new (cold_at split i) (at g n) v)
      unfolding laid_to laid_at
      next_places =
          ap (λ (x : ℕ). laid_to (at g) o split i ++ (laid_block x (at g (get_or o i 0)) (leave_at (at g) o split i) ∷ bridge_of x (cold_at split i) (at g (get_or o i 0)) (leave_at (at g) o split i))) y.new_is
          ∙ ap (λ (x : ℕ). laid_to (at g) o split i ++ (laid_block new (at g x) (leave_at (at g) o split i) ∷ bridge_of new (cold_at split i) (at g x) (leave_at (at g) o split i))) ne
          ∙ ap (λ (x : Leaving). laid_to (at g) o split i ++ (laid_block new (at g n) x ∷ bridge_of new (cold_at split i) (at g n) x)) ve

      still_unlaid : (j : ℕ) → i + 1 ≤ j → j < length o → get_or (set l.graph.b.place n (l.graph.blocks + 1)) (get_or o j 0) 0 ≡ 0
      still_unlaid j x z = get_or-set_other l.graph.b.place n (get_or o j 0) (l.graph.blocks + 1) 0 (λ w. omega (arith, x, r.once j i z h (w ∙ sym ne))) ∙ y.unlaid j (omega (arith, x)) z

      still_spare : (m : ℕ) → new ≤ m → get_or (set l.graph.b.place n (l.graph.blocks + 1)) m 0 ≡ 0
      still_spare m x = get_or-set_other l.graph.b.place n m (l.graph.blocks + 1) 0 (λ z. omega (arith, x, z, room.n_low)) ∙ y.spare m x

      plain_turn : Bridgeless v → Laying g o split l₁ (i + 1)
      unfolding arms_to with_place
      plain_turn z =
          let w = bridge_none v new (cold_at split i) (at g n) z in
          let ie : suc i ≡ i + 1 = omega arith in
          record {
            sized = block_sized;
            placed = block_placed;
            places = block_places ∙ sym (subst (λ (x : ℕ). laid_to (at g) o split x ≡ laid_to (at g) o split i ++ (laid_block new (at g n) v ∷ [])) ie
                (next_places ∙ ap (λ (x : List Place). laid_to (at g) o split i ++ (laid_block new (at g n) v ∷ x)) w.0));
            p_is = omega (arith, y.p_is);
            few = omega (arith, y.few);
            new_is = subst (λ (x : ℕ). new_to (at g) o split x ≡ new) ie (next_new v refl ∙ w.1);
            q_is = subst (λ (x : ℕ). l.graph.arms + c ≡ arms_to g.a.count o x + l.bridges) ie (omega (arith, y.q_is, ap (λ (m : ℕ). get_or g.a.count m 0) ne));
            unlaid = still_unlaid;
            spare = still_spare;
            marks = y.marks;
            ends = y.ends;
            weight = y.weight;
          }

      module _ (j : ℕ) (z : v ≡ Bridge j) where
        abbrev x : ℕ
        x = get_or g.a.first n 0 + j

        abbrev cold : Bool
        cold = cold_at split i

        abbrev q₁ : ℕ
        q₁ = l.graph.arms + c

        abbrev marks₂ : List ℕ
        marks₂ = set l.graph.b.marks new (cond cold 2 0)

        abbrev ends₂ : List ℕ
        ends₂ = set l.graph.b.ends new 0

        abbrev weight₂ : List ℕ
        weight₂ = set l.graph.b.weight new (get_or g.a.weight x 0)

        abbrev to₂ : List ℕ
        to₂ = set a.to q₁ (get_or g.a.to x 0)

        abbrev args₂ : List ℕ
        args₂ = set a.args q₁ (get_or g.a.args x 0)

        abbrev heft₂ : List ℕ
        heft₂ = set a.weight q₁ (get_or g.a.weight x 0)

        -- the bridge is laid
        abbrev l₂ : Laid
        l₂ = added l₁ new 1 1 marks₂ ends₂ weight₂ to₂ args₂ heft₂

        only₂ : Only l₁ new 1 1 marks₂ ends₂ weight₂ to₂ args₂ heft₂
        unfolding with_place with_arm
        only₂ = record {
          same_marks = λ m f. get_or-set_other l.graph.b.marks new m (cond cold 2 0) 0 f;
          same_ends = λ m f. get_or-set_other l.graph.b.ends new m 0 0 f;
          same_weight = λ m f. get_or-set_other l.graph.b.weight new m (get_or g.a.weight x 0) 0 f;
          same_arms = λ m f. put_other l₁.graph.a q₁ g.a x m (λ w. omega (arith, f, w));
        }

        fresh₂ : get_or l₁.graph.b.place new 0 ≡ 0
        unfolding with_place
        fresh₂ = still_spare new (omega arith)

        more₂ : l₁.graph.blocks < most.blocks
        unfolding with_place
        more₂ = omega (arith, room.place)

        arm_below : j < c
        arm_below = bridge_within v ve j z

        arm_is : get_or (leaves g.a n) j no_arm ≡ arm_at g.a x
        unfolding leaves
        arm_is = arms_get g.a c (get_or g.a.first n 0) j arm_below

        taken : arm_at (with_arm l₁.graph.a q₁ g.a x) q₁ ≡ get_or (leaves g.a n) j no_arm
        taken = put_same l₁.graph.a q₁ g.a x block_sized.arms room.arm ∙ sym arm_is

        laid_bridge : new_place l₁ new 1 1 marks₂ ends₂ weight₂ to₂ args₂ heft₂ block_sized block_placed only₂ fresh₂ room.new_low more₂ ≡ bridge_for new cold (get_or (leaves g.a n) j no_arm)
        unfolding bridge_for arms_from arm_at with_place with_arm
        laid_bridge =
            rw (le-leb most.numbers new (omega arith), get_or-set_same l.graph.b.marks new (cond cold 2 0) 0 (omega (arith, room.new_low, y.sized.blocks.marks)), get_or-set_same l.graph.b.ends new 0 0 (omega (arith, room.new_low, y.sized.blocks.ends)), get_or-set_same l.graph.b.weight new (get_or g.a.weight x 0) 0 (omega (arith, room.new_low, y.sized.blocks.weight))) (
            ap (λ (w : Arm). record { block = record { number = new; marks = cond cold 2 0; end = 0; weight = get_or g.a.weight x 0; arms = w ∷ [] }; is_bridge = true; exit = 1 }) taken
            ∙ ap (λ (w : ℕ). record { block = record { number = new; marks = cond cold 2 0; end = 0; weight = w; arms = get_or (leaves g.a n) j no_arm ∷ [] }; is_bridge = true; exit = 1 }) (ap (λ (w : Arm). w.weight) (sym arm_is)))

        bridge_is : bridge_of new cold (at g n) v ≡ bridge_for new cold (get_or (leaves g.a n) j no_arm) ∷ []
        unfolding bridge_of block_at
        bridge_is = ap (bridge_of new cold (at g n)) z

        abbrev bf : Place
        bf = bridge_for new cold (get_or (leaves g.a n) j no_arm)

        bridge_places : places_of l₂ ≡ laid_to (at g) o split (suc i)
        bridge_places =
            places_more l₁ new 1 1 marks₂ ends₂ weight₂ to₂ args₂ heft₂ block_sized block_placed only₂ fresh₂ room.new_low more₂
            ∙ ap (λ (w : Place). places_of l₁ ++ (w ∷ [])) laid_bridge ∙ ap (λ (w : List Place). w ++ (bf ∷ [])) block_places
            ∙ append_assoc (laid_to (at g) o split i) (laid_block new (at g n) v ∷ []) (bf ∷ [])
            ∙ sym (next_places ∙ ap (λ (w : List Place). laid_to (at g) o split i ++ (laid_block new (at g n) v ∷ w)) bridge_is)

        bridge_turn : Laying g o split (with_bridge g.a (get_or g.a.first n 0 + j) (cold_at split i) l₁) (i + 1)
        unfolding arms_to new_after with_place with_arm with_bridge
        bridge_turn =
            let ie : suc i ≡ i + 1 = omega arith in
            let pl = placed_more l₁ new 1 1 marks₂ ends₂ weight₂ to₂ args₂ heft₂ block_sized block_placed only₂ fresh₂ room.new_low more₂ in
            let sz = sized_more l₁ new 1 1 marks₂ ends₂ weight₂ to₂ args₂ heft₂ block_sized block_placed only₂ fresh₂ room.new_low more₂ (simp length-set y.sized.blocks.marks) (simp length-set y.sized.blocks.ends) (simp length-set y.sized.blocks.weight) (simp length-set le.sized.to) (simp length-set le.sized.args) (simp length-set le.sized.weight) in
            record {
              sized = record { blocks = sz.blocks; arms = sz.arms; exits = sz.exits };
              placed = record { back = pl.back; within = pl.within };
              places = bridge_places ∙ ap (laid_to (at g) o split) ie;
              p_is = omega (arith, y.p_is);
              few = omega (arith, y.few);
              new_is = subst (λ (w : ℕ). new_to (at g) o split w ≡ most.numbers + (l.bridges + 1)) ie (next_new (Bridge j) z ∙ omega arith);
              q_is = subst (λ (w : ℕ). l.graph.arms + c + 1 ≡ arms_to g.a.count o w + (l.bridges + 1)) ie (omega (arith, y.q_is, ap (λ (m : ℕ). get_or g.a.count m 0) ne));
              unlaid = λ k u t. get_or-set_other l₁.graph.b.place new (get_or o k 0) (l.graph.blocks + 1 + 1) 0 (λ w. omega (arith, w, r.low k t)) ∙ still_unlaid k u t;
              spare = λ m u. get_or-set_other l₁.graph.b.place new m (l.graph.blocks + 1 + 1) 0 (λ w. omega (arith, u, w)) ∙ still_spare m (omega (arith, u));
              marks = λ m u. get_or-set_other l.graph.b.marks new m (cond cold 2 0) 0 (λ w. omega (arith, u, w)) ∙ y.marks m u;
              ends = λ m u. get_or-set_other l.graph.b.ends new m 0 0 (λ w. omega (arith, u, w)) ∙ y.ends m u;
              weight = λ m u. get_or-set_other l.graph.b.weight new m (get_or g.a.weight x 0) 0 (λ w. omega (arith, u, w)) ∙ y.weight m u;
            }

      -- THE STEPS, without a bridge and with one
      same : l₁ ≡ with_place (record l { graph = record l.graph { a = a } }) n c digit
      same = rw (← le.first, ← le.count)

      pub plain_step : Bridgeless v → Laying g o split (with_place (record l { graph = record l.graph { a = a } }) n (get_or g.a.count n 0) (exit_of (get_or g.b.ends n 0) v)) (i + 1)
      plain_step z = subst (λ (x : Laid). Laying g o split x (i + 1)) same (plain_turn z)

      pub bridge_step : (j : ℕ) → v ≡ Bridge j →
          Laying g o split (with_bridge g.a (get_or g.a.first n 0 + j) (cold_at split i) (with_place (record l { graph = record l.graph { a = a } }) n (get_or g.a.count n 0) (exit_of (get_or g.b.ends n 0) v))) (i + 1)
      bridge_step j z = subst (λ (x : Laid). Laying g o split (with_bridge g.a (get_or g.a.first n 0 + j) (cold_at split i) x) (i + 1)) same (bridge_turn j z)
