-- `Text::put_number` meets its contract: the digits, and behind them the byte.
use Rattle.std.proofs.Common.{arith}
use Rattle.listing.proofs.PutLaws.{put_then}
use Rattle.listing.proofs.text.Text.put_number.Goals as goal

pub returns : goal.returns
returns c = put_then (omega (arith, c.requires)) c.put_decimal.ensures c.put_word.ensures
