-- `cribstork::run` is safe and does what it says.
use Rattle.std.proofs.Common.{◌≡◌, length, length-take, subst, take, arith}
use Rattle.type1.specs.Interpret.{Leaves, source_of, outcome}
use Rattle.cribstork.proofs.run.Goals as goal

pub returns : goal.returns
returns c =
    let e : length (take c.args.records c.stem_store-stems.result) ≡ c.args.records = simp length-take (omega arith) in
    record {
      before = take c.args.records c.stem_store-stems.result;
      after = c.run_charstring.new.stems;
      leaves = subst (λ n. Leaves c.run_charstring.result c.run_charstring.new.commands c.run_charstring.new.stems c.args.words.now (take c.args.records c.stem_store-stems.result) (outcome (source_of c.args.charstring.now c.args.bank.now) c.args.reading n (length c.args.words.now))) e c.run_charstring.ensures;
    }
