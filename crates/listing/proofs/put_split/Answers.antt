-- `listing::put_split` meets its contract: its two words in turn.
use Rattle.std.proofs.Common.{arith, length, ◌≤◌}
use Rattle.listing.proofs.PutLaws.{put_then, put_same}
use Rattle.listing.proofs.LineLaws.{last_none, last_some}
use Rattle.listing.proofs.put_split.Goals as goal

pub returns-in-Some : goal.returns-in-Some
returns-in-Some c =
    let h : c.args.text.now.len ≤ length c.args.text.now.out.now = omega arith in
    rw c.in-Some.is (put_same (last_some c.in-Some.place) (put_then h c.put_word.ensures c.put_number.ensures))

pub returns-in-None : goal.returns-in-None
returns-in-None c =
    let h : c.args.text.now.len ≤ length c.args.text.now.out.now = omega arith in
    rw c.in-None.is (put_same last_none (put_then h c.put_word.ensures c.put_word-in-None.ensures))
