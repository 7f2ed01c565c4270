-- One place more in the tables. Assumes nothing.
use Rattle.std.proofs.Common.{ℕ, zero, suc, ◌+◌, ◌≤◌, ◌<◌, ◌≡◌, Bool, true, false, cond, List, [], ◌∷◌, ◌++◌, length, get_or, refl, sym, ap, ◌∙◌, arith, add-one}
use lib.Dec.{eqb, leb}
use lib.ListN.{set, length-set}
use lib.Seq.{get_or-set_same, get_or-set_other}
use Rattle.limits.specs.Limits as most
use Rattle.lists.proofs.Choices.{split_lt}
use Rattle.lists.proofs.Tables.{set_get}
use Rattle.rules.specs.Exits.{Place}
use Rattle.records.specs.declared.Blocks.{Blocks}
use Rattle.records.specs.declared.Arms.{Arms}
use Rattle.records.specs.Tables.{arm_at, arms_from, leaves, block_at, ArmsWithin}
use Rattle.records.proofs.TableLaws.{arms_kept}
use Rattle.exits.specs.declared.Laid.{Laid}
use Rattle.exits.specs.Lays.{Below, place_at, places_to, places_of, with_place}
use Rattle.exits.proofs.Steps.{Sized, Placed}

-- places that are the same
module _ (b c : Blocks) (a d : Arms) (e f : List ℕ) where
  places_same : (p : ℕ) → ((x : ℕ) → x < p → get_or b.listed x 0 ≡ get_or c.listed x 0) → ((x : ℕ) → x < p → place_at b a e (get_or c.listed x 0) ≡ place_at c d f (get_or c.listed x 0)) →
      places_to b a e p ≡ places_to c d f p
  unfolding places_to
  places_same zero l h = refl
  places_same (suc p) l h =
      ap (λ (r : List Place). r ++ (place_at b a e (get_or b.listed p 0) ∷ [])) (places_same p (λ x k. l x (omega (arith, k))) (λ x k. h x (omega (arith, k))))
      ∙ ap (λ (y : Place). places_to c d f p ++ (y ∷ [])) (ap (place_at b a e) (l p (omega arith)) ∙ h p (omega arith))

-- m is laid next, with its c arms, which stand in the tables already
module _ (l : Laid) (m c digit : ℕ) (marks ends weight to args heft : List ℕ) where
  abbrev pub ready : Laid
  ready = record l { graph = record l.graph { b = record l.graph.b { marks = marks; ends = ends; weight = weight }; a = record l.graph.a { to = to; args = args; weight = heft } } }

  abbrev pub added : Laid
  added = with_place ready m c digit

  abbrev p : ℕ
  p = l.graph.blocks

  abbrev q : ℕ
  q = l.graph.arms

  abbrev b₁ : Blocks
  b₁ = record { place = set l.graph.b.place m (p + 1); listed = set l.graph.b.listed p m; marks = marks; ends = ends; weight = weight }

  abbrev a₁ : Arms
  a₁ = record { first = set l.graph.a.first m q; count = set l.graph.a.count m c; to = to; args = args; weight = heft }

  abbrev e₁ : List ℕ
  e₁ = set l.exits m digit

  -- the tables changed at m alone
  pub record Only : Type 0 where
    pub same_marks : (y : ℕ) → (y ≡ m → ⊥) → get_or marks y 0 ≡ get_or l.graph.b.marks y 0
    pub same_ends : (y : ℕ) → (y ≡ m → ⊥) → get_or ends y 0 ≡ get_or l.graph.b.ends y 0
    pub same_weight : (y : ℕ) → (y ≡ m → ⊥) → get_or weight y 0 ≡ get_or l.graph.b.weight y 0
    pub same_arms : Below l.graph.arms (record l.graph.a { to = to; args = args; weight = heft }) l.graph.a

  module _ (s : Sized l) (h : Placed l) (o : Only) (fresh : get_or l.graph.b.place m 0 ≡ 0) (room : m < most.blocks) (more : l.graph.blocks < most.blocks) where
    apart : (x : ℕ) → x < p → get_or l.graph.b.listed x 0 ≡ m → ⊥
    apart x k z = omega (arith, sym (ap (λ (n : ℕ). get_or l.graph.b.place n 0) z) ∙ h.back x k, fresh)

    arms_below : Below q a₁ l.graph.a
    unfolding arm_at
    arms_below = o.same_arms

    block_kept : (y : ℕ) → (y ≡ m → ⊥) → block_at b₁ a₁ y ≡ block_at l.graph.b l.graph.a y
    unfolding block_at leaves
    block_kept y f =
        rw (o.same_marks y f, o.same_ends y f, o.same_weight y f, get_or-set_other l.graph.a.first m y q 0 f, get_or-set_other l.graph.a.count m y c 0 f, arms_kept a₁ l.graph.a q arms_below (get_or l.graph.a.count y 0) (get_or l.graph.a.first y 0) (h.within y))

    place_kept : (y : ℕ) → (y ≡ m → ⊥) → place_at b₁ a₁ e₁ y ≡ place_at l.graph.b l.graph.a l.exits y
    unfolding place_at
    place_kept y f = rw (block_kept y f, get_or-set_other l.exits m y digit 0 f)

    -- the place as it is laid
    abbrev pub new_place : Place
    new_place =
        record {
          block = record { number = m; marks = get_or marks m 0; end = get_or ends m 0; weight = get_or weight m 0; arms = arms_from a₁ q c };
          is_bridge = leb most.numbers m;
          exit = digit;
        }

    place_new : place_at b₁ a₁ e₁ m ≡ new_place
    unfolding place_at block_at leaves
    place_new = rw (get_or-set_same l.graph.a.first m q 0 (omega (arith, room, s.arms.first)), get_or-set_same l.graph.a.count m c 0 (omega (arith, room, s.arms.count)), get_or-set_same l.exits m digit 0 (omega (arith, room, s.exits)))

    places_suc : places_to b₁ a₁ e₁ (suc p) ≡ places_of l ++ (new_place ∷ [])
    unfolding places_to
    places_suc =
        ap (λ (x : List Place). x ++ (place_at b₁ a₁ e₁ (get_or (set l.graph.b.listed p m) p 0) ∷ []))
        (places_same b₁ l.graph.b a₁ l.graph.a e₁ l.exits p (λ x k. get_or-set_other l.graph.b.listed p x m 0 (λ z. omega (arith, k, z))) (λ x k. place_kept (get_or l.graph.b.listed x 0) (apart x k)))
        ∙ ap (λ (y : Place). places_of l ++ (y ∷ []))
        (ap (place_at b₁ a₁ e₁) (get_or-set_same l.graph.b.listed p m 0 (omega (arith, more, s.blocks.listed))) ∙ place_new)

    -- THE LAWS
    pub places_more : places_of added ≡ places_of l ++ (new_place ∷ [])
    unfolding with_place
    places_more = ap (places_to b₁ a₁ e₁) (add-one p) ∙ places_suc

    within_more : ArmsWithin a₁ (q + c)
    within_more y = rw (set_get l.graph.a.first m q y (omega (arith, room, s.arms.first)), set_get l.graph.a.count m c y (omega (arith, room, s.arms.count))) (go (eqb y m))
      where
        go : (t : Bool) → cond t q (get_or l.graph.a.first y 0) + cond t c (get_or l.graph.a.count y 0) ≤ q + c
        go true = omega arith
        go false = omega (arith, h.within y)

    back_more : (x : ℕ) → x < p + 1 → get_or (set l.graph.b.place m (p + 1)) (get_or (set l.graph.b.listed p m) x 0) 0 ≡ suc x
    back_more x k =
        split_lt x p
        (λ z. ap (λ (n : ℕ). get_or (set l.graph.b.place m (p + 1)) n 0) (get_or-set_other l.graph.b.listed p x m 0 (λ w. omega (arith, z, w)))
        ∙ get_or-set_other l.graph.b.place m (get_or l.graph.b.listed x 0) (p + 1) 0 (apart x z) ∙ h.back x z)
        (λ z. let w : x ≡ p = omega (arith, k, z) in
        ap (λ (n : ℕ). get_or (set l.graph.b.place m (p + 1)) n 0) (ap (λ (n : ℕ). get_or (set l.graph.b.listed p m) n 0) w ∙ get_or-set_same l.graph.b.listed p m 0 (omega (arith, more, s.blocks.listed)))
        ∙ get_or-set_same l.graph.b.place m (p + 1) 0 (omega (arith, room, s.blocks.place)) ∙ omega (arith, w))

    pub placed_more : Placed added
    unfolding with_place
    placed_more = record { back = back_more; within = within_more }

    pub sized_more : length marks ≡ most.blocks → length ends ≡ most.blocks → length weight ≡ most.blocks → length to ≡ most.arms → length args ≡ most.arms → length heft ≡ most.arms → Sized added
    unfolding with_place
    sized_more m e w t a h = record {
      blocks = record { place = simp length-set s.blocks.place; listed = simp length-set s.blocks.listed; marks = m; ends = e; weight = w };
      arms = record { first = simp length-set s.arms.first; count = simp length-set s.arms.count; to = t; args = a; weight = h };
      exits = simp length-set s.exits;
    }
