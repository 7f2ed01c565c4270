-- The passes, one after the other, are document 01's "Forward". Assumes nothing.
use Rattle.std.proofs.Common.{ℕ, zero, suc, ◌+◌, ◌≤◌, ◌<◌, ◌≡◌, sym, ap, ◌∙◌, subst, false, List, map, length, get_or, arith}
use Rattle.std.specs.Prelude.{Option, None}
use mathlib.Core.Bool.{Bool}
use mathlib.Core.Logic.{inl, inr}
use Rattle.limits.specs.Limits.{numbers, most_arms, blocks}
use Rattle.lists.proofs.Choices.{split_lt}
use Rattle.rules.specs.Graph as graph
use Rattle.rules.specs.Graph.{numbers_of}
use Rattle.rules.specs.Forward.{goal, moved_all, entered, cleared_block, forward, moves_between, moves}
use Rattle.rules.proofs.Membership.{In}
use Rattle.rules.proofs.Wholeness.{Whole, block_in, arm_target}
use Rattle.rules.proofs.Forwarded.{forward_whole}
use Rattle.records.specs.declared.Arms.{Arms}
use Rattle.records.specs.declared.Graph.{Graph}
use Rattle.records.specs.Tables.{Has, Apart, ArmsWithin, arm_at, arms_from, leaves, block_at, up_to, tabled, Back, Carries, Sound, Carried}
use Rattle.records.proofs.StandLaws.{listed_in, in_listed, find_listed, carries_of, stands_of, sound_carried}
use Rattle.forwarding.specs.Forwards.{changed, Forwarded, ForwardedFrom}
use Rattle.forwarding.specs.Steps.{Goals, turned, moved_of, Leads, cleared}
use Rattle.forwarding.proofs.StepLaws.{turns_length, turns_small}
use Rattle.forwarding.proofs.GoalLaws.{small}
use Rattle.forwarding.proofs.BlockMoves.{all_turned, all_counted}
use Rattle.forwarding.proofs.ClearLaws.{Long, kept, fewer, cleared_long, all_cleared}

arm_in : (a : Arms) (n f q : ℕ) → f ≤ q → q < f + n → In (arm_at a q) (arms_from a f n)
unfolding arms_from
arm_in a zero f q l m = absurd (omega (arith, l, m))
arm_in a (suc n) f q l m =
    split_lt f q
    (λ h. inr (arm_in a n (suc f) q (omega (arith, h)) (omega (arith, m))))
    (λ h. inl (ap (arm_at a) (let e : q ≡ f = omega (arith, l, h) in e)))

module _ (t : Graph) (s : Carried t) where
  abbrev n : ℕ
  n = t.blocks

  abbrev k : ℕ → ℕ
  k i = get_or t.b.listed i 0

  below : (i : ℕ) → i < n → k i < blocks
  below i l = omega (arith, s.stands.below i l)

  -- every arm goes to a listed block
  block_is_in : (i : ℕ) → i < n → In (block_at t.b t.a (k i)) (tabled t)
  unfolding tabled
  block_is_in i l = subst (λ (x : graph.Block). In x (up_to t.b t.a n)) (find_listed t.b t.a i n l) (block_in (up_to t.b t.a n) (k i) (listed_in t.b t.a i n l)).0

  leaves_in : (i q : ℕ) → Has t.a (k i) q → In (arm_at t.a q) (block_at t.b t.a (k i)).arms
  unfolding block_at leaves
  leaves_in i q h = arm_in t.a (get_or t.a.count (k i) 0) (get_or t.a.first (k i) 0) q h.from h.below

  target_in : (i : ℕ) → i < n → (q : ℕ) → Has t.a (k i) q → In (get_or t.a.to q 0) (numbers_of (tabled t))
  unfolding arm_at
  target_in i l q h = s.whole (block_at t.b t.a (k i)) (block_is_in i l) (get_or t.a.to q 0) (arm_target (block_at t.b t.a (k i)) (arm_at t.a q) (leaves_in i q h))

  leads : Leads t
  leads =
      record {
        few = omega (arith, s.stands.few);
        fits = λ m. omega (arith, s.stands.fits m);
        leads = λ i l q h.
            omega (arith, small t s (get_or t.a.to (get_or t.a.first (k i) 0 + q) 0) (target_in i l (get_or t.a.first (k i) 0 + q) (record { from = omega arith; below = omega (arith, h) })));
      }

  fits : ArmsWithin t.a (length t.a.to)
  fits m = omega (arith, s.stands.fits m, s.stands.arms_sized.to)

  module _ (onward : List (Option ℕ)) (g : Goals t onward n) where
    abbrev u : Graph
    u = turned onward t n

    -- after the moves
    pub leads_on : Leads u
    leads_on =
        record {
          few = leads.few;
          fits = leads.fits;
          leads = λ i l q h. turns_small onward t.b t.a fits g.small n (get_or t.a.first (k i) 0 + q) (leads.leads i l q h);
        }

    module _ (apart : Apart t) where
      known : (i : ℕ) → i < n → (q : ℕ) → Has t.a (k i) q → goal (tabled t) (get_or t.a.to q 0) ≡ get_or onward (get_or t.a.to q 0) None
      unfolding tabled
      known i l q h =
          let r = in_listed t.b t.a (get_or t.a.to q 0) n (target_in i l q h) in
          subst (λ (y : ℕ). goal (tabled t) y ≡ get_or onward y None) r.2 (sym (g.known r.0 r.1))

      moved_graph : tabled u ≡ moved_all (tabled t)
      unfolding moved_all tabled
      moved_graph = all_turned onward (goal (tabled t)) t.b t.a n apart fits known n (omega arith)

      moved_count : moved_of onward t.b t.a n ≡ moves (tabled t)
      unfolding moves tabled
      moved_count = all_counted onward (goal (tabled t)) t.b t.a n apart fits known n (omega arith) ∙ ap (moves_between (up_to t.b t.a n)) moved_graph

      start_long : Long u
      start_long = record { marks = s.stands.blocks_sized.marks; weight = s.stands.blocks_sized.weight; count = s.stands.arms_sized.count }

      module _ (reached : List Bool) (in_to : (x : ℕ) → get_or reached x false ≡ entered (tabled u) x) where
        abbrev r : Graph
        r = cleared onward reached u n

        kept_is : r ≡ changed t r.b.marks r.b.weight r.a.count u.a.to
        kept_is = kept onward reached u n

        is_forward : tabled r ≡ forward (tabled t)
        unfolding tabled forward
        is_forward =
            ap (up_to r.b r.a) (ap (λ (z : Graph). z.blocks) kept_is)
            ∙ all_cleared onward reached u start_long (goal (tabled t)) (tabled u) s.stands.once below (λ i l. sym (g.known i l)) (λ x. sym (in_to x)) n (omega arith)
            ∙ ap (λ (m : graph.Graph). map (cleared_block (goal (tabled t)) m) m) moved_graph

        still : (m : ℕ) → get_or r.a.count m 0 ≤ get_or t.a.count m 0
        still m = fewer onward reached u n m

        -- r, with what stays written out
        abbrev z : Graph
        z = changed t r.b.marks r.b.weight r.a.count u.a.to

        still_has : (m q : ℕ) → Has z.a m q → Has t.a m q
        still_has m q h = record { from = h.from; below = omega (arith, h.below, still m) }

        is_apart : Apart z
        is_apart i j l m d q x y = apart i j l m d q (still_has (k i) q x) (still_has (k j) q y)

        is_standing : Carries numbers most_arms z (forward (tabled t))
        is_standing =
            let long = cleared_long onward reached u start_long n in
            record {
              graph_is = ap tabled (sym kept_is) ∙ is_forward;
              few = s.stands.few;
              below = s.stands.below;
              once = s.stands.once;
              fits = λ m. omega (arith, still m, s.stands.fits m);
              blocks_sized = record { place = s.stands.blocks_sized.place; listed = s.stands.blocks_sized.listed; marks = long.marks; ends = s.stands.blocks_sized.ends; weight = long.weight };
              arms_sized =
                  record {
                    first = s.stands.arms_sized.first;
                    count = long.count;
                    to = turns_length onward t.b t.a fits n ∙ s.stands.arms_sized.to;
                    args = s.stands.arms_sized.args;
                    weight = s.stands.arms_sized.weight;
                  };
            }

        -- what the passes leave is what document 01 asks for
        pub carried_forwards : ForwardedFrom t r (moved_of onward t.b t.a n)
        carried_forwards =
            record {
              stands = subst (λ (x : Graph). Carries numbers most_arms x (forward (tabled t))) (sym kept_is) is_standing;
              back = subst (λ (x : Graph). Back t → Back x) (sym kept_is) (λ b. b);
              kept = kept_is ∙ ap (changed t r.b.marks r.b.weight r.a.count) (sym (ap (λ (x : Graph). x.a.to) kept_is));
              moved_is = moved_count;
              apart = subst Apart (sym kept_is) is_apart;
            }

-- tables that stand for the graph forwarded carry it, and those that carry it stand for it where `place` was the way back
module _ {t u : Graph} {moved : ℕ} where
  pub forwarded_from : Forwarded t u moved → ForwardedFrom t u moved
  forwarded_from f = record { stands = carries_of f.stands; back = λ b. f.stands.back; kept = f.kept; moved_is = f.moved_is; apart = f.apart }

  pub forwarded_to : Back t → ForwardedFrom t u moved → Forwarded t u moved
  forwarded_to b f = record { stands = stands_of f.stands (f.back b); kept = f.kept; moved_is = f.moved_is; apart = f.apart }

module _ (t : Graph) (s : Sound t) (onward : List (Option ℕ)) (g : Goals t onward t.blocks) (apart : Apart t) (reached : List Bool)
    (in_to : (x : ℕ) → get_or reached x false ≡ entered (tabled (turned onward t t.blocks)) x) where
  pub forwards : Forwarded t (cleared onward reached (turned onward t t.blocks) t.blocks) (moved_of onward t.b t.a t.blocks)
  forwards = forwarded_to s.stands.back (carried_forwards t (sound_carried s) onward g apart reached in_to)

-- what is left can be lent again
pub carried_again : (t v : Graph) (moved : ℕ) → Carried t → ForwardedFrom t v moved → Carried v
carried_again t v moved s f =
    record {
      stands = rw f.stands.graph_is f.stands;
      whole = subst Whole (sym f.stands.graph_is) (forward_whole (tabled t) s.whole);
    }

pub forwarded_sound : (t v : Graph) (moved : ℕ) → Sound t → Forwarded t v moved → Sound v
forwarded_sound t v moved s f =
    record {
      stands = rw f.stands.graph_is f.stands;
      whole = subst Whole (sym f.stands.graph_is) (forward_whole (tabled t) s.whole);
    }
