-- One removal from the stack, as the code does it over its tables, is one of the rules' machine. Assumes nothing.
use Rattle.std.proofs.Common.{ℕ, zero, suc, ◌+◌, ◌≤◌, ◌<◌, ◌≡◌, Bool, true, false, ◌||◌, List, [], ◌∷◌, ◌++◌, length, get_or, inl, inr, refl, sym, ap, ◌∙◌, subst, arith, add-one, T, eqb, ltb}
use Rattle.std.proofs.lemmas.List.{reverse-append}
use borrow.Author.Tests.{lt-ltb}
use Rattle.limits.specs.Limits.{blocks}
use Rattle.marks.proofs.SetLaws.{eqb_turn, size_more}
use Rattle.marks.specs.Sets.{member, size}
use Rattle.rules.specs.Lists.{any, mem}
use Rattle.rules.specs.Graph.{Graph, numbers_of}
use Rattle.rules.specs.PlainOrder as rules
use Rattle.rules.proofs.Membership.{In}
use Rattle.rules.proofs.PlainVisit.{todo, enter, finish}
use Rattle.rules.proofs.StackWalk.{Frame, State, run, pop, pop_end, pop_old, pop_new}
use Rattle.records.specs.declared.Order.{Order}
use Rattle.records.specs.Tables.{in_order}
use Rattle.stack.specs.Frames.{frame}
use Rattle.walks.specs.declared.Walk.{Walk}
use Rattle.walks.specs.Walking.{Stacked, Counted, Shows}

pub get_or-In : (l : List ℕ) (i : ℕ) → i < length l → In (get_or l i 0) l
get_or-In [] i h = absurd (omega (arith, h))
get_or-In (x ∷ l) zero h = inl refl
get_or-In (x ∷ l) (suc i) h = inr (get_or-In l i (omega (arith, h)))

-- ---- what the tables show
pub shows_enter : {v : rules.Walk} {w : Walk} (t : ℕ) (seen : List ℕ) → Shows v w → ((m : ℕ) → member seen m ≡ eqb m t || member w.seen m) → Shows (enter v t) (record { seen = seen; done = w.done })
unfolding enter mem any
shows_enter {v} {w} t seen h s = record {
  seen_is = λ m. s m ∙ ap (λ (b : Bool). b || member w.seen m) (eqb_turn m t) ∙ ap (λ (b : Bool). eqb t m || b) (h.seen_is m);
  done_is = h.done_is;
  long = h.long;
}

shows_finish : {v : rules.Walk} {w : Walk} (b : ℕ) (done : Order) → Shows v w → in_order done ≡ in_order w.done ++ b ∷ [] → done.len ≡ w.done.len + 1 → Shows (finish v b) (record { seen = w.seen; done = done })
unfolding finish
shows_finish {v} {w} b done h e n = record { seen_is = h.seen_is; done_is = e ∙ ap (λ (l : List ℕ). l ++ b ∷ []) h.done_is ∙ sym (reverse-append (b ∷ []) v.done); long = omega (arith, h.long, n) }

-- ---- the machine
abbrev pub state : List Frame → rules.Walk → State
state st w = record { stack = st; walk = w }

-- some removals lead from one state to the other
abbrev pub Ends : Graph → State → State → Type 0
Ends g s x = (k : ℕ) × (run g k s ≡ x)

module _ (g : Graph) where
  -- from s the walk has come to this stack and these tables
  pub record Along (s : State) (st : List Frame) (w : Walk) : Type 0 where
    pub walk : rules.Walk
    pub shows : Shows walk w
    pub onward : (x : State) → Ends g (state st walk) x → Ends g s x

  ends_more : (st : List Frame) (v : rules.Walk) (x : State) → Ends g (pop g st v) x → Ends g (state st v) x
  unfolding run
  ends_more st v x e = (suc e.0, e.1)

  module _ (s : State) (b j : ℕ) (st : List Frame) (w : Walk) (a : Along s (frame b j ∷ st) w) where
    along_end : (done : Order) → length (todo g b) ≤ j → in_order done ≡ in_order w.done ++ b ∷ [] → done.len ≡ w.done.len + 1 → Along s st (record { seen = w.seen; done = done })
    along_end done h e n = record {
      walk = finish a.walk b;
      shows = shows_finish b done a.shows e n;
      onward = λ x q. a.onward x (ends_more (frame b j ∷ st) a.walk x (subst (λ (y : State). Ends g y x) (sym (pop_end g b j st a.walk h)) q));
    }

    module _ (t : ℕ) (h : j < length (todo g b)) (is : t ≡ get_or (todo g b) j 0) where
      below : T (ltb j (length (todo g b)))
      below = rw (lt-ltb j (length (todo g b)) h) tt

      along_old : member w.seen t ≡ true → Along s (frame b (j + 1) ∷ st) w
      along_old m = record {
        walk = a.walk;
        shows = a.shows;
        onward = λ x e. a.onward x
            (ends_more (frame b j ∷ st) a.walk x
            (subst (λ (y : State). Ends g y x)
            (sym (pop_old g b j st a.walk below (rw (← is, ← a.shows.seen_is t, m) tt) ∙ ap (λ (k : ℕ). state (frame b k ∷ st) a.walk) (sym (add-one j)))) e));
      }

      along_new : (seen : List ℕ) → member w.seen t ≡ false → ((m : ℕ) → member seen m ≡ eqb m t || member w.seen m) → Along s (frame t 0 ∷ frame b (j + 1) ∷ st) (record { seen = seen; done = w.done })
      along_new seen m more = record {
        walk = enter a.walk t;
        shows = shows_enter t seen a.shows more;
        onward = λ x e. a.onward x
            (ends_more (frame b j ∷ st) a.walk x
            (subst (λ (y : State). Ends g y x)
            (sym (pop_new g b j st a.walk below (rw (← is, ← a.shows.seen_is t, m) tt)
            ∙ ap (λ (k : ℕ). state (frame k 0 ∷ frame b (suc j) ∷ st) (enter a.walk k)) (sym is)
            ∙ ap (λ (k : ℕ). state (frame t 0 ∷ frame b k ∷ st) (enter a.walk t)) (sym (add-one j)))) e));
      }

-- ---- what holds while the code walks from block root, with w₀ before
pub record Going (g : Graph) (root : ℕ) (w₀ : Walk) (st : List Frame) (w : Walk) : Type 0 where
  pub stacked : Stacked g st
  pub counted : Counted (length st) w
  pub along : (v : rules.Walk) → Shows v w₀ → Along g (state (frame root 0 ∷ []) (enter v root)) st w

module _ {g : Graph} {root : ℕ} {w₀ w : Walk} {before : List Frame} {b j : ℕ} {st : List Frame} (had : before ≡ frame b j ∷ st) (before_going : Going g root w₀ before w) where
  h : Going g root w₀ (frame b j ∷ st) w
  h = subst (λ (l : List Frame). Going g root w₀ l w) had before_going

  pub top_in : In b (numbers_of g)
  top_in = h.stacked.0.0

  pub top_next : j ≤ length (todo g b)
  top_next = h.stacked.0.1

  pub top_counted : length st + 1 + w.done.len ≡ size w.seen
  top_counted = omega (arith, h.counted)

  pub turn_end : (done : Order) → length (todo g b) ≤ j → in_order done ≡ in_order w.done ++ b ∷ [] → done.len ≡ w.done.len + 1 → Going g root w₀ st (record { seen = w.seen; done = done })
  turn_end done e is long = record {
    stacked = h.stacked.1;
    counted = omega (arith, h.counted, long);
    along = λ v s. along_end g (state (frame root 0 ∷ []) (enter v root)) b j st w (h.along v s) done e is long;
  }

  module _ {t : ℕ} (lt : j < length (todo g b)) (is : t ≡ get_or (todo g b) j 0) where
    pub turn_old : {up : List Frame} → up ≡ frame b (j + 1) ∷ st → member w.seen t ≡ true → Going g root w₀ up w
    turn_old lifted m = rw lifted (record {
      stacked = ((top_in, omega (arith, lt)), h.stacked.1);
      counted = omega (arith, h.counted);
      along = λ v s. along_old g (state (frame root 0 ∷ []) (enter v root)) b j st w (h.along v s) t lt is m;
    })

    pub turn_new : {up after : List Frame} → up ≡ frame b (j + 1) ∷ st → after ≡ frame t 0 ∷ up → (seen : List ℕ) → In t (numbers_of g) → t < blocks → member w.seen t ≡ false → ((m : ℕ) → member seen m ≡ eqb m t || member w.seen m) → Going g root w₀ after (record { seen = seen; done = w.done })
    turn_new lifted entered seen i low m more = rw (entered, lifted) (record {
      stacked = ((i, omega arith), ((top_in, omega (arith, lt)), h.stacked.1));
      counted = omega (arith, h.counted, size_more w.seen seen t low m more);
      along = λ v s. along_new g (state (frame root 0 ∷ []) (enter v root)) b j st w (h.along v s) t lt is seen m more;
    })
