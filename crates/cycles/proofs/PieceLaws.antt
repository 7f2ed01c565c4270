-- The pieces of the second walk are those of the rules, so two blocks are in one exactly when each reaches the other. Assumes nothing.
use Prim.Native.Nat.{ℕ, zero, suc, ◌≤◌, ◌<◌}
use native.Mathlib.Omega.{arith}
use mathlib.Core.Path.{◌≡◌, refl, sym, ap, ◌∙◌, subst}
use mathlib.Core.Bool.{Bool, not, cond}
use mathlib.Core.Logic.{inl, inr, ⊎_elim, ◌↔◌}
use mathlib.Core.List.{List, [], ◌∷◌, ◌++◌, append_assoc, append-nil}
use lib.Dec.{T, T_not, not_T}
use lib.ListN.{length, get_or, drop, drop_of_length-le}
use lib.Seq.{drop-cons}
use Rattle.lists.proofs.Choices.{split_eq}
use Rattle.rules.specs.Lists.{any, foldl, mem}
use Rattle.rules.specs.Graph.{Graph, numbers_of}
use Rattle.rules.specs.PlainOrder.{Walk, visit}
use Rattle.rules.specs.Heads.{together}
use Rattle.rules.proofs.Membership.{In, T→≡, F→≡, any→, →any, keep→, →keep, mem→, →mem, append-In, In-left, In-right}
use Rattle.rules.proofs.Counting.{Once}
use Rattle.rules.proofs.Wholeness.{Whole}
use Rattle.rules.proofs.LeastLaws.{least_closed, least_start, least_ind}
use Rattle.rules.proofs.PlainVisit.{todo, unseen, unseen_mono, todo_listed, few, nothing}
use Rattle.rules.proofs.FinishOrder.{Inv, leads_listed, visits}
use Rattle.rules.proofs.Pieces.{leads_in, unlaid, piece}
use Rattle.rules.proofs.TwoWalks.{finished, pieces, two_walks}
use Rattle.cycles.specs.Gathering.{Back, here, over, Collected, Sorted, none, old, new}

-- ---- what the first walk finishes is listed
module _ (g : Graph) (listed : (n : ℕ) → In n (numbers_of g) → (c : ℕ) → In c (todo g n) → In c (numbers_of g)) where
  fold_low : (k : ℕ) (l : List ℕ) → ((c : ℕ) → In c l → In c (numbers_of g)) → (u : Walk) → unseen g u ≤ k → Inv g u → ((m : ℕ) → In m u.done → In m (numbers_of g)) →
      (m : ℕ) → In m (foldl (visit g k) u l).done → In m (numbers_of g)
  unfolding foldl
  fold_low k [] s u q i low m j = low m j
  fold_low k (x ∷ l) s u q i low m j =
      let a = visits g listed k u x (s x (inl refl)) q i in
      let v = visit g k u x in
      fold_low k l (λ c d. s c (inr d)) v (omega (arith, q, unseen_mono g u v a.0.mono)) a.0.inv
      (λ n d. ⊎_elim (λ e. leads_listed g listed x (s x (inl refl)) n (a.0.leads n e)) (low n) (append-In n a.0.new u.done (subst (λ (r : List ℕ). In n r) a.0.split d))) m j

pub finished_listed : (g : Graph) → Whole g → (m : ℕ) → In m (finished g) → In m (numbers_of g)
unfolding finished
finished_listed g w = fold_low g (todo_listed g w) (length g) (numbers_of g) (λ c j. j) nothing (few g) (record { good = tt; shut = λ v j. absurd j }) (λ m j. absurd j)

-- ---- one piece

-- the lists have just the ways in
pub record Inwards (g : Graph) (f : ℕ → List ℕ) : Type 0 where
  pub sound : (x y : ℕ) → In x (f y) → In x (numbers_of g) × In y (todo g x)
  pub complete : (x y : ℕ) → In x (numbers_of g) → In y (todo g x) → In x (f y)

-- the table marks just the blocks of s
record Marks (g : Graph) (s p : List ℕ) : Type 0 where
  on : (x : ℕ) → In x (numbers_of g) → T (mem x s) → 0 < get_or p x 0
  off : (x : ℕ) → In x (numbers_of g) → 0 < get_or p x 0 → T (mem x s)

-- the piece pc has this name in the table, which is its root's
record Named (g : Graph) (p pc : List ℕ) : Type 0 where
  root : ℕ
  own : get_or p root 0 ≡ suc root
  to : (x : ℕ) → In x (numbers_of g) → T (mem x pc) → get_or p x 0 ≡ suc root
  back : (x : ℕ) → In x (numbers_of g) → get_or p x 0 ≡ suc root → T (mem x pc)

-- a name that is given is its root's
abbrev Owned : List ℕ → Type 0
Owned p = (x r : ℕ) → get_or p x 0 ≡ suc r → get_or p r 0 ≡ suc r

module _ (g : Graph) (f : ℕ → List ℕ) (ways : Inwards g f) where
  module _ (s : List ℕ) (r : ℕ) (p q : List ℕ) (marks : Marks g s p) (ri : In r (numbers_of g)) (free : get_or p r 0 ≡ 0) (d : Collected f r (suc r) p q) where
    open_in : (x : ℕ) → In x (numbers_of g) → get_or p x 0 ≡ 0 → In x (unlaid g s)
    unfolding unlaid
    open_in x i e = →keep (λ (b : ℕ). not (mem b s)) (numbers_of g) x i (not_T (mem x s) (λ t. omega (arith, e, marks.on x i t)))

    opened : (x : ℕ) → In x (unlaid g s) → In x (numbers_of g) × (get_or p x 0 ≡ 0)
    unfolding unlaid
    opened x i =
        let k = keep→ (λ (b : ℕ). not (mem b s)) (numbers_of g) x i in
        (k.0, split_eq (get_or p x 0) (λ e. e) (λ n. absurd (T_not (mem x s) k.1 (marks.off x k.0 (omega (arith, n))))))

    New : ℕ → Type 0
    New x = (get_or p x 0 ≡ 0) × (0 < get_or q x 0)

    piece_new : (x : ℕ) → T (mem x (piece g s r)) → New x
    unfolding piece leads_in New
    piece_new x t = least_ind (unlaid g s) (leads_in g) New
        (λ u b h i a. let y = any→ (λ (z : ℕ). mem z u) (todo g b) a in let n = h y.0 y.2 in let o = opened b i in
        (o.1, d.shut y.0 n.0 n.1 b (ways.complete b y.0 o.0 y.1)))
        (r ∷ []) (λ b m. ⊎_elim (λ e. subst New (sym e) (free, omega (arith, d.root))) (λ z. absurd z) (mem→ b (r ∷ []) m)) x t

    back_piece : (x : ℕ) → Back f p r x → T (mem x (piece g s r))
    unfolding piece leads_in
    back_piece x (here e) = subst (λ (y : ℕ). T (mem y (piece g s r))) (sym e) (least_start (unlaid g s) (leads_in g) (r ∷ []) r (open_in r ri free) (→mem r (r ∷ []) (inl refl)))
    back_piece x (over {y = y} b i e) =
        let w = ways.sound x y i in
        least_closed (unlaid g s) (leads_in g) (r ∷ []) x (open_in x w.0 e) (→any (λ (z : ℕ). mem z (piece g s r)) (todo g x) y w.1 (back_piece y b))

    stays : (x : ℕ) → 0 < get_or p x 0 → get_or q x 0 ≡ get_or p x 0
    stays x h = ⊎_elim (λ e. e) (λ n. absurd (omega (arith, h, n.0))) (d.came x)

    piece_named : (x : ℕ) → T (mem x (piece g s r)) → get_or q x 0 ≡ suc r
    unfolding New
    piece_named x t = let n = piece_new x t in ⊎_elim (λ e. absurd (omega (arith, e, n.0, n.1))) (λ k. k.1) (d.came x)

    marks_more : Marks g (piece g s r ++ s) q
    unfolding New
    marks_more = record {
      on = λ x i t. ⊎_elim (λ j. (piece_new x (→mem x (piece g s r) j)).1) (λ j. let h = marks.on x i (→mem x s j) in omega (arith, h, stays x h)) (append-In x (piece g s r) s (mem→ x (piece g s r ++ s) t));
      off = λ x i h. ⊎_elim (λ e. →mem x (piece g s r ++ s) (In-right x (piece g s r) s (mem→ x s (marks.off x i (omega (arith, e, h)))))) (λ k. →mem x (piece g s r ++ s) (In-left x (piece g s r) s (mem→ x (piece g s r) (back_piece x k.2)))) (d.came x);
    }

    named_more : (pc : List ℕ) → Named g p pc → Named g q pc
    named_more pc n = record {
      root = n.root;
      own = keep_name n.root n.root n.own;
      to = λ x i t. keep_name x n.root (n.to x i t);
      back = λ x i e. ⊎_elim (λ z. n.back x i (sym z ∙ e)) (λ z. absurd (let y : n.root ≡ r = omega (arith, z.1, e) in omega (arith, free, subst (λ (w : ℕ). get_or p w 0 ≡ suc w) y n.own))) (d.came x);
    }
      where
        keep_name : (x m : ℕ) → get_or p x 0 ≡ suc m → get_or q x 0 ≡ suc m
        keep_name x m e = stays x (omega (arith, e)) ∙ e

    named_new : Owned p → Named g q (piece g s r)
    named_new o = record {
      root = r;
      own = d.root;
      to = λ x i t. piece_named x t;
      back = λ x i e. ⊎_elim (λ z. absurd (omega (arith, free, o x r (sym z ∙ e)))) (λ z. back_piece x z.2) (d.came x);
    }

    owned_more : Owned p → Owned q
    owned_more o x m e =
        ⊎_elim (λ z. let k = o x m (sym z ∙ e) in stays m (omega (arith, k)) ∙ k)
        (λ z. let y : r ≡ m = omega (arith, z.1, e) in subst (λ (w : ℕ). get_or q w 0 ≡ suc w) y d.root) (d.came x)

  -- ---- the pieces in turn

  -- after i blocks of the list l
  record Shown (l : List ℕ) (i : ℕ) (p : List ℕ) : Type 0 where
    seen : List ℕ
    made : List (List ℕ)
    rest : pieces g [] l ≡ made ++ pieces g seen (drop i l)
    marks : Marks g seen p
    named : (pc : List ℕ) → In pc made → Named g p pc
    own : Owned p

  module _ (order l : List ℕ) (same : (i : ℕ) → i < length l → get_or order i 0 ≡ get_or l i 0) (low : (m : ℕ) → In m l → In m (numbers_of g)) where
    at_in : (k : List ℕ) (i : ℕ) → i < length k → In (get_or k i 0) k
    at_in [] i h = absurd (omega (arith, h))
    at_in (x ∷ k) zero h = inl refl
    at_in (x ∷ k) (suc i) h = inr (at_in k i (omega (arith, h)))

    order_in : (i : ℕ) → i < length l → In (get_or order i 0) (numbers_of g)
    order_in i h = low (get_or order i 0) (subst (λ (x : ℕ). In x l) (sym (same i h)) (at_in l i h))

    next_is : (i : ℕ) → i < length l → drop i l ≡ get_or order i 0 ∷ drop (suc i) l
    next_is i h = drop-cons l i 0 h ∙ ap (λ (x : ℕ). x ∷ drop (suc i) l) (sym (same i h))

    shown : (i : ℕ) (p : List ℕ) → i ≤ length l → Sorted f order i p → Shown l i p
    unfolding mem any pieces
    shown i p h (none e) = record {
      seen = [];
      made = [];
      rest = refl;
      marks = record { on = λ x j t. absurd t; off = λ x j k. absurd (omega (arith, k, e x)) };
      named = λ pc j. absurd j;
      own = λ x r k. absurd (omega (arith, k, e x));
    }
    shown i p h (old {i = i'} b k) =
        let v = shown i' p (omega (arith, h)) b in
        let r = get_or order i' 0 in
        let t = v.marks.off r (order_in i' (omega (arith, h))) k in
        record {
          seen = v.seen;
          made = v.made;
          rest = v.rest ∙ ap (λ (z : List ℕ). v.made ++ pieces g v.seen z) (next_is i' (omega (arith, h))) ∙ ap (λ (z : Bool). v.made ++ cond z (pieces g v.seen (drop (suc i') l)) (piece g v.seen r ∷ pieces g (piece g v.seen r ++ v.seen) (drop (suc i') l))) (T→≡ (mem r v.seen) t);
          marks = v.marks;
          named = v.named;
          own = v.own;
        }
    shown i q h (new {i = i'} {p = p} b e d) =
        let v = shown i' p (omega (arith, h)) b in
        let s = v.seen in
        let r = get_or order i' 0 in
        let ri = order_in i' (omega (arith, h)) in
        let m = v.marks in
        let pc = piece g s r in
        let f' : T (not (mem r s)) = not_T (mem r s) (λ t. omega (arith, e, m.on r ri t)) in
        record {
          seen = pc ++ s;
          made = v.made ++ (pc ∷ []);
          rest =
              v.rest ∙ ap (λ (z : List ℕ). v.made ++ pieces g s z) (next_is i' (omega (arith, h)))
              ∙ ap (λ (z : Bool). v.made ++ cond z (pieces g s (drop (suc i') l)) (pc ∷ pieces g (pc ++ s) (drop (suc i') l))) (F→≡ (mem r s) f')
              ∙ sym (append_assoc v.made (pc ∷ []) (pieces g (pc ++ s) (drop (suc i') l)));
          marks = marks_more s r p q m ri e d;
          named = λ k j. ⊎_elim (λ j'. named_more s r p q m ri e d k (v.named k j')) (λ j'. ⊎_elim (λ z. subst (Named g q) (sym z) (named_new s r p q m ri e d v.own)) (λ z. absurd z) j') (append-In k v.made (pc ∷ []) j);
          own = owned_more s r p q m ri e d v.own;
        }

    -- after all of it the pieces are those of the rules
    made_all : (p : List ℕ) → Sorted f order (length l) p → (pc : List ℕ) → In pc (pieces g [] l) → Named g p pc
    unfolding pieces
    made_all p h pc i =
        let v = shown (length l) p (omega arith) h in
        let e : pieces g [] l ≡ v.made = v.rest ∙ ap (λ (z : List ℕ). v.made ++ pieces g v.seen z) (drop_of_length-le l {i = length l} (omega arith)) ∙ append-nil v.made in
        v.named pc (subst (λ (z : List (List ℕ)). In pc z) e i)

-- THE THEOREM
pub sorted_exact : (g : Graph) (f : ℕ → List ℕ) → Inwards g f → Whole g → Once (numbers_of g) → (order p : List ℕ) → ((i : ℕ) → i < length (finished g) → get_or order i 0 ≡ get_or (finished g) i 0) →
    Sorted f order (length (finished g)) p → (n m : ℕ) → In n (numbers_of g) → In m (numbers_of g) → (get_or p n 0 ≡ get_or p m 0) ↔ T (together g n m)
unfolding mem any
sorted_exact g f ways w o order p same h n m i j =
    let t = two_walks g w o in
    let c = t.covers n i tt in
    let k = made_all g f ways order (finished g) same (finished_listed g w) p h c.0 c.1 in
    let e = (t.each c.0 c.1).exact n m i j c.2 in
    let a = k.to n i c.2 in
    (λ z. e.0 (k.back m j (sym z ∙ a)), λ z. a ∙ sym (k.to m j (e.1 z)))
