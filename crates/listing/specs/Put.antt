-- What a function that puts text into lent bytes answers.
use Rattle.std.specs.Prelude.{ℕ, ◌+◌, ◌≡◌, List, length}
use Rattle.lists.specs.Behind.{behind}
use Rattle.listing.specs.declared.text.Text.{Text}

-- the text stands behind what stood there, in the same lent bytes, of which no other changed
pub record Put (text : List ℕ) (before after : Text) : Type 0 where
  pub same : after.out.ghost_name ≡ before.out.ghost_name
  pub long : length after.out.now ≡ length before.out.now
  pub bytes : after.out.now ≡ behind before.len text before.out.now
  pub ends : after.len ≡ before.len + length text
