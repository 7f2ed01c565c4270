-- What a stack holds, its top first.
use Rattle.std.specs.Prelude.{ℕ, zero, suc, ◌+◌, ◌-◌, ◌≡◌, List, [], ◌∷◌, get_or, set, Option, None, Some}
use denote.Ref.{at_last}
use Rattle.rules.proofs.StackWalk as rules
use Rattle.stack.specs.declared.Frame.{Frame}
use Rattle.stack.specs.declared.Room.{Room}
use Rattle.stack.specs.declared.Stack.{Stack}
use Rattle.stack.specs.declared.Popped.{Popped}

abbrev pub frame : ℕ → ℕ → rules.Frame
frame block next = record { block = block; next = next }

-- the frames of the first n places, the last first
unfoldable pub frames : Room → ℕ → List rules.Frame
frames r zero = []
frames r (suc n) = frame (get_or r.block n 0) (get_or r.arm n 0) ∷ frames r n

-- the room with a frame at place i
abbrev pub with_frame : Room → ℕ → ℕ → ℕ → Room
with_frame r i block arm = record { block = set r.block i block; arm = set r.arm i arm }

-- what a stack holds
abbrev pub stack_of : Stack → List rules.Frame
stack_of s = frames s.slots.now s.len

-- the same storage with a frame at the stack's end, and one frame more
pub record Pushed (s : Stack) (block arm : ℕ) (r : Stack) : Type 0 where
  pub slots : r.slots ≡ at_last s.slots (with_frame s.slots.now s.len block arm)
  pub len : r.len ≡ s.len + 1

-- what a pop gives of a stack, and what it leaves of it
abbrev pub TakenFrom : List rules.Frame → Option Frame → List rules.Frame → Type 0
TakenFrom st None left = (st ≡ []) × (left ≡ [])
TakenFrom st (Some f) left = st ≡ frame f.block f.arm ∷ left

-- the same storage, with one frame less where there is one, and that frame
pub record PoppedOf (s : Stack) (r : Popped) : Type 0 where
  pub slots : r.stack.slots ≡ s.slots
  pub len : r.stack.len ≡ s.len - 1
  pub taken : TakenFrom (stack_of s) r.top (stack_of r.stack)
