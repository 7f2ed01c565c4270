-- `listing::refused` meets its contract: its four words in turn.
use Rattle.std.proofs.Common.{arith, length, ◌≤◌, sym, refl, rules}
use Rattle.listing.proofs.PutLaws.{put_then, put_same, put_front}
use Rattle.listing.proofs.LineLaws.{refusal_is}
use Rattle.listing.proofs.refused.Goals as goal

pub returns : goal.returns
returns c =
    let h : 0 ≤ length c.args.out.now = omega arith in
    let all = put_then h (put_then h (put_then h c.put_word.ensures c.put_number.ensures) c.put_word-2.ensures) c.put_number-2.ensures in
    put_front (put_same (refusal_is c.args.number c.args.place) all) refl refl (search (rules, sym all.same))
