-- Chains of arms, and the sweep that finds what they reach: the two agree. Assumes nothing.
use Prim.Native.Nat.{ℕ}
use mathlib.Core.Path.{◌≡◌, refl, sym, subst}
use mathlib.Core.Bool.{◌&&◌}
use mathlib.Core.Logic.{inl, ⊎_elim}
use mathlib.Core.List.{[], ◌∷◌}
use lib.Dec.{T}
use Rattle.rules.specs.Lists.{mem}
use Rattle.rules.specs.Graph.{Block, Graph, numbers_of, targets}
use Rattle.rules.specs.Spread.{least}
use Rattle.rules.specs.Heads.{reached_from, reach}
use Rattle.rules.proofs.Membership.{In, and_l, and_r, and_i, any→, →any, mem→, →mem}
use Rattle.rules.proofs.LeastLaws.{least_closed, least_start, least_ind}
use Rattle.rules.proofs.Wholeness.{Whole}

pub data Chain (g : Graph) (a : ℕ) : ℕ → Type 0 where
  here : {b : ℕ} → a ≡ b → Chain g a b
  then : {b c : ℕ} → Chain g a b → (x : Block) → In x g → x.number ≡ b → In c (targets x) → Chain g a c

pub reach_sound : (g : Graph) (a b : ℕ) → T (mem b (reach g a)) → Chain g a b
unfolding reach reached_from
reach_sound g a b t = least_ind (numbers_of g) (reached_from g) (Chain g a)
    (λ s c h u e. let r = any→ (λ (x : Block). mem x.number s && mem c (targets x)) g e in
    then (h r.0.number (and_l (mem r.0.number s) (mem c (targets r.0)) r.2)) r.0 r.1 refl
    (mem→ c (targets r.0) (and_r (mem r.0.number s) (mem c (targets r.0)) r.2)))
    (a ∷ []) (λ c m. ⊎_elim (λ e. here (sym e)) (λ f. absurd f) (mem→ c (a ∷ []) m)) b t

pub reach_complete : (g : Graph) → Whole g → (a : ℕ) → In a (numbers_of g) → (b : ℕ) → Chain g a b → T (mem b (reach g a))
unfolding reach reached_from
reach_complete g w a u b (here e) = subst (λ (x : ℕ). T (mem x (reach g a))) e (least_start (numbers_of g) (reached_from g) (a ∷ []) a u (→mem a (a ∷ []) (inl refl)))
reach_complete g w a u b (then {b = m} ch x i e j) =
    let ih = reach_complete g w a u m ch in
    least_closed (numbers_of g) (reached_from g) (a ∷ []) b (w x i b j)
    (→any (λ (y : Block). mem y.number (least (numbers_of g) (reached_from g) (a ∷ [])) && mem b (targets y)) g x i
    (and_i (mem x.number (least (numbers_of g) (reached_from g) (a ∷ []))) (mem b (targets x)) (rw e ih) (→mem b (targets x) j)))
