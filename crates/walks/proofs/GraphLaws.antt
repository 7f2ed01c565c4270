-- Tables that carry a graph: the walks over them give its orders. Assumes nothing.
use Rattle.std.proofs.Common.{ℕ, ◌+◌, ◌≡◌, not, List, [], ◌++◌, length, take, reverse, refl, sym, ap, ◌∙◌, arith, length-append}
use Rattle.std.specs.Prelude.{Option, None, Some}
use Rattle.std.proofs.lemmas.List.{reverse-reverse, length-reverse, length-take-le}
use Rattle.marks.specs.Sets.{member}
use Rattle.marks.proofs.SetLaws.{size_list}
use Rattle.rules.specs.Lists.{any, keep, mem}
use Rattle.rules.specs.Graph.{numbers_of, entry}
use Rattle.rules.specs.PlainOrder.{order}
use Rattle.rules.proofs.Counting.{Once, no_longer}
use Rattle.rules.proofs.PlainOnce.{plain_once}
use Rattle.rules.proofs.PlainVisit.{todo_listed}
use Rattle.rules.proofs.TwoWalks.{finished}
use Rattle.records.specs.declared.Graph.{Graph}
use Rattle.records.specs.Tables.{tabled, Back, Sound, Carried, in_order}
use Rattle.records.proofs.StandLaws.{numbers_are, once_apart, carries_of, stands_of, sound_carried}
use Rattle.walks.specs.declared.Walk.{Walk}
use Rattle.walks.specs.Walking.{Fitting, Walkable, Counted, Shows, entered, all_visited, unmarked}
use Rattle.walks.proofs.ArmLaws.{low}
use Rattle.walks.proofs.OrderLaws.{keep_same, keep_every}
use Rattle.walks.proofs.RootLaws.{all_seen}

-- a graph within the limits is within the tables' room
pub carried_walks : (t : Graph) → Carried t → Walkable t
carried_walks t s = record {
  stands = record {
    graph_is = s.stands.graph_is;
    few = omega (arith, s.stands.few);
    below = λ i h. omega (arith, s.stands.below i h);
    once = s.stands.once;
    fits = λ n. omega (arith, s.stands.fits n);
    blocks_sized = s.stands.blocks_sized;
    arms_sized = s.stands.arms_sized;
  };
  whole = s.whole;
}

pub fitting_walks : {t : Graph} → Fitting t → Walkable t
fitting_walks s = record { stands = carries_of s.stands; whole = s.whole }

pub walks_fitting : {t : Graph} → Walkable t → Back t → Fitting t
walks_fitting s b = record { stands = stands_of s.stands b; whole = s.whole }

pub sound_fits : (t : Graph) → Sound t → Fitting t
sound_fits t s = walks_fitting (carried_walks t (sound_carried s)) s.stands.back

module _ (t : Graph) (s : Walkable t) where
  pub numbers : numbers_of (tabled t) ≡ take t.blocks t.b.listed
  unfolding tabled
  numbers = numbers_are t.b t.a t.blocks (omega (arith, s.stands.few, s.stands.blocks_sized.listed))

  numbers_length : length (numbers_of (tabled t)) ≡ t.blocks
  numbers_length = ap length numbers ∙ length-take-le t.blocks t.b.listed (omega (arith, s.stands.few, s.stands.blocks_sized.listed))

  once : Once (numbers_of (tabled t))
  unfolding tabled
  once = once_apart t.b t.a t.blocks s.stands.once

  -- ---- the plain order
  module _ (w : Walk) (shows : Shows (entered (tabled t)) w) where
    order_of : (o : Option ℕ) → entry (tabled t) ≡ o → order (tabled t) ≡ (entered (tabled t)).done ++ keep (λ (m : ℕ). not (mem m (entered (tabled t)).seen)) (numbers_of (tabled t))
    unfolding order entered mem any
    order_of None e = rw (e, order, entered) (sym (keep_every (λ (m : ℕ). not (mem m [])) (numbers_of (tabled t)) (λ m. refl)))
    order_of (Some x) e = rw (e, order, entered) refl

    -- as the code makes it
    pub order_is : {o : List ℕ} → o ≡ reverse (in_order w.done) ++ unmarked t w.seen → o ≡ order (tabled t)
    unfolding unmarked
    order_is p =
        let v = entered (tabled t) in
        p
        ∙ ap (λ (l : List ℕ). reverse l ++ unmarked t w.seen) shows.done_is
        ∙ ap (λ (l : List ℕ). l ++ unmarked t w.seen) (reverse-reverse v.done)
        ∙ ap (λ (l : List ℕ). v.done ++ l) (keep_same (λ (m : ℕ). not (member w.seen m)) (λ (m : ℕ). not (mem m v.seen)) (take t.blocks t.b.listed) (λ m. ap not (shows.seen_is m)))
        ∙ ap (λ (l : List ℕ). v.done ++ keep (λ (m : ℕ). not (mem m v.seen)) l) (sym numbers)
        ∙ sym (order_of (entry (tabled t)) refl)

    pub order_long : w.done.len + length (unmarked t w.seen) ≡ t.blocks
    order_long =
        let one = plain_once (tabled t) s.whole once in
        omega (
          arith,
          numbers_length,
          no_longer (order (tabled t)) (numbers_of (tabled t)) (λ k. omega (arith, one k)),
          no_longer (numbers_of (tabled t)) (order (tabled t)) (λ k. omega (arith, one k)),
          ap length (order_is refl),
          length-append (reverse (in_order w.done)) (unmarked t w.seen),
          length-reverse (in_order w.done),
          ap length shows.done_is,
          length-reverse (entered (tabled t)).done,
          shows.long,
        )

  -- ---- what the walk from each listed block finishes
  module _ (w : Walk) (shows : Shows (all_visited (tabled t)) w) where
    pub finished_is : {o : List ℕ} → o ≡ reverse (in_order w.done) → o ≡ finished (tabled t)
    unfolding finished all_visited
    finished_is p = p ∙ ap reverse shows.done_is ∙ reverse-reverse (all_visited (tabled t)).done

    pub finished_long : Counted 0 w → w.done.len ≡ t.blocks
    finished_long c =
        omega (arith, c, size_list w.seen (numbers_of (tabled t)) once (low t s) (λ m. shows.seen_is m ∙ all_seen (tabled t) (todo_listed (tabled t) s.whole) m), numbers_length)
