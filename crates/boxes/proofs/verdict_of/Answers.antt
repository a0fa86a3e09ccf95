-- `boxes::verdict_of` meets its contract.
use Rattle.boxes.proofs.WindowLaws.{apart_is, inside_is, verdict_is}
use mir.Val.{SFits}
use mir.Syntax.{w64}
use borrow.Author.Rules.{rules}
use Rattle.boxes.proofs.verdict_of.Goals as goal

pub returns : goal.returns
returns c =
    let bl : SFits w64 c.args.b.left = search rules in
    let bb : SFits w64 c.args.b.bottom = search rules in
    let br : SFits w64 c.args.b.right = search rules in
    let bt : SFits w64 c.args.b.top = search rules in
    let wl : SFits w64 c.args.w.left = search rules in
    let wb : SFits w64 c.args.w.bottom = search rules in
    let wr : SFits w64 c.args.w.right = search rules in
    let wt : SFits w64 c.args.w.top = search rules in
    verdict_is c.args.b c.args.w _ _ _ _ _ (apart_is bl br wl wr _ c.apart-apart_x.ensures) (apart_is bb bt wb wt _ c.apart-apart_y.ensures) (inside_is bl br wl wr _ c.inside-inside_x.ensures) (inside_is bb bt wb wt _ c.inside-inside_y.ensures) c.decide.ensures
