-- The second of the two walks of `cycles`: each root's piece is its mutual-reach class. Assumes nothing.
use Prim.Native.Nat.{ℕ}
use mathlib.Core.Path.{refl, sym, subst}
use mathlib.Core.Bool.{Bool, not}
use mathlib.Core.Logic.{inl, ⊎_elim}
use mathlib.Core.List.{List, [], ◌∷◌}
use lib.Dec.{T, T_not, not_T}
use Rattle.rules.specs.Lists.{keep, any, mem}
use Rattle.rules.specs.Graph.{Graph, numbers_of}
use Rattle.rules.specs.Spread.{least}
use Rattle.rules.proofs.Membership.{In, any→, →any, keep→, →keep, mem→, →mem}
use Rattle.rules.proofs.LeastLaws.{least_closed, least_start, least_ind}
use Rattle.rules.proofs.PlainVisit.{todo}
use Rattle.rules.proofs.FinishOrder.{Leads, stay, on, first_arm, Good, Toward, there, via, leads_back, leads_listed}

module _ (g : Graph) where
  unfoldable pub leads_in : List ℕ → ℕ → Bool
  unfolding any mem todo
  leads_in t b = any (λ (y : ℕ). mem y t) (todo g b)

  unfoldable pub unlaid : List ℕ → List ℕ
  unfolding keep mem
  unlaid s = keep (λ (b : ℕ). not (mem b s)) (numbers_of g)

  unfoldable pub piece : List ℕ → ℕ → List ℕ
  unfolding least unlaid leads_in
  piece s r = least (unlaid s) leads_in (r ∷ [])

  module _ (listed : (n : ℕ) → In n (numbers_of g) → (c : ℕ) → In c (todo g n) → In c (numbers_of g)) (s : List ℕ) (r : ℕ) (l : List ℕ)
      (good : Good g (r ∷ l)) (back : (x y : ℕ) → In x (numbers_of g) → In y (todo g x) → T (mem y s) → T (mem x s))
      (cover : (x : ℕ) → In x (numbers_of g) → T (not (mem x s)) → In x (r ∷ l)) (ri : In r (numbers_of g)) (rs : T (not (mem r s))) where
    opened : (x : ℕ) → In x (unlaid s) → In x (numbers_of g) × T (not (mem x s))
    unfolding unlaid
    opened x i = keep→ (λ (b : ℕ). not (mem b s)) (numbers_of g) x i

    Both : ℕ → Type 0
    Both x = Toward g r l x × Leads g x r

    both : (x : ℕ) → T (mem x (piece s r)) → Both x
    unfolding piece leads_in Both
    both x t = least_ind (unlaid s) leads_in Both
        (λ u b h i a. let p = any→ (λ (y : ℕ). mem y u) (todo g b) a in let q = h p.0 p.2 in let o = opened b i in
        (via (cover b o.0 o.1) p.1 q.0, first_arm g b p.0 p.1 r q.1))
        (r ∷ []) (λ c m. ⊎_elim (λ e. (there e, stay e)) (λ z. absurd z) (mem→ c (r ∷ []) m)) x t

    pub piece_sound : (x : ℕ) → T (mem x (piece s r)) → Leads g r x × Leads g x r
    unfolding Both
    piece_sound x t = let b = both x t in (leads_back g r l good x b.0, b.1)

    leads_shut : (x : ℕ) → In x (numbers_of g) → (c : ℕ) → Leads g x c → T (mem c s) → T (mem x s)
    leads_shut x i c (stay e) t = subst (λ (y : ℕ). T (mem y s)) (sym e) t
    leads_shut x i c (on {b = m} p j) t = leads_shut x i m p (back m c (leads_listed g listed x i m p) j t)

    clear : (x : ℕ) → In x (numbers_of g) → Leads g r x → (c : ℕ) → Leads g x c → T (not (mem c s))
    clear x i q c p = not_T (mem c s) (λ t. T_not (mem r s) rs (leads_shut r ri x q (leads_shut x i c p t)))

    pull : (x : ℕ) → In x (numbers_of g) → Leads g r x → (c : ℕ) → Leads g x c → T (mem c (piece s r)) → T (mem x (piece s r))
    unfolding piece leads_in unlaid
    pull x i q c (stay e) t = subst (λ (y : ℕ). T (mem y (piece s r))) (sym e) t
    pull x i q c (on {b = m} p j) t = pull x i q m p (least_closed (unlaid s) leads_in (r ∷ []) m (→keep (λ (b : ℕ). not (mem b s)) (numbers_of g) m (leads_listed g listed x i m p) (clear x i q m p))
        (→any (λ (y : ℕ). mem y (piece s r)) (todo g m) c j t))

    pub piece_complete : (x : ℕ) → In x (numbers_of g) → Leads g r x → Leads g x r → T (mem x (piece s r))
    unfolding piece unlaid
    piece_complete x i q p = pull x i q r p (least_start (unlaid s) leads_in (r ∷ []) r (→keep (λ (b : ℕ). not (mem b s)) (numbers_of g) r ri rs) (→mem r (r ∷ []) (inl refl)))
