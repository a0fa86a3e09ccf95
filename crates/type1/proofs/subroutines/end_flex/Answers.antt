use mathlib.Core.Path.{refl, sym, ap, ◌∙◌}
use native.Mathlib.Omega.{arith}
use Rattle.othersubrs.specs.Laws.{whole_told}
use Rattle.type1.specs.declared.Ran.{Ran}
use Rattle.type1.proofs.Flex.{ends_not, ends_commit, ends_enter, ends_full, ends_done, flex_space}
use Rattle.type1.proofs.subroutines.end_flex.Goals as goal

pub returns-then-not-is_whole_flex : goal.returns-then-not-is_whole_flex
returns-then-not-is_whole_flex c =
    record { meets = ends_not _ _ _ _ _ _ _ _ _ _ c.made.ensures (sym c.is_whole_flex.ensures ∙ c.if-not-is_whole_flex.true); space = λ n. absurd (n (ap (λ (q : Ran). q.st.groups) c.made.ensures)) }

pub returns-then-c-ne0 : goal.returns-then-c-ne0
returns-then-c-ne0 c = record {
  meets = ends_commit _ _ _ _ _ _ _ (whole_told c.args.st.flexing c.args.st.points (sym c.is_whole_flex.ensures
      ∙ c.if-not-is_whole_flex.false)).0 (whole_told c.args.st.flexing c.args.st.points (sym c.is_whole_flex.ensures
      ∙ c.if-not-is_whole_flex.false)).1 _ _ c.commit-c.ensures.step c.if-c-ne0.true;
  space = flex_space c.args.st _ c.commit-c.result.st _ c.commit-c.ensures.path refl;
}

pub list_flex-e-requires : goal.list_flex-e-requires
list_flex-e-requires c = record {
  entries_in_bounds = omega (arith, c.commit-c.ensures.grown.bounds.entries, c.cmds-1.given);
  t = (
    c.requires.t.0,
    λ i h. c.requires.t.1 (whole_told c.args.st.flexing
        c.args.st.points (sym c.is_whole_flex.ensures
        ∙ c.if-not-is_whole_flex.false)).0 (omega (
          arith,
          (whole_told c.args.st.flexing
              c.args.st.points (sym c.is_whole_flex.ensures
              ∙ c.if-not-is_whole_flex.false)).1,
        )) i (omega (arith, (whole_told c.args.st.flexing c.args.st.points (sym c.is_whole_flex.ensures ∙ c.if-not-is_whole_flex.false)).1)),
  );
}

pub returns-then-e-ne0 : goal.returns-then-e-ne0
returns-then-e-ne0 c = record {
  meets = ends_enter _ _ _ _ _ _ _ (whole_told c.args.st.flexing
      c.args.st.points (sym c.is_whole_flex.ensures
      ∙ c.if-not-is_whole_flex.false)).0 (whole_told c.args.st.flexing
      c.args.st.points (sym c.is_whole_flex.ensures
      ∙ c.if-not-is_whole_flex.false)).1 _ _ c.commit-c.ensures.step c.if-c-ne0.false
      c.cmds-1.given _ _ c.list_flex-e.ensures.meets
      c.list_flex-e.ensures.plain.groups c.if-e-ne0.true;
  space = flex_space c.args.st _ c.list_flex-e.result.st _ c.commit-c.ensures.path c.list_flex-e.ensures.plain.groups;
}

pub returns-then-p-gt254 : goal.returns-then-p-gt254
returns-then-p-gt254 c = record {
  meets = ends_full _ _ _ _ _ _ _ (whole_told c.args.st.flexing
      c.args.st.points (sym c.is_whole_flex.ensures
      ∙ c.if-not-is_whole_flex.false)).0 (whole_told c.args.st.flexing
      c.args.st.points (sym c.is_whole_flex.ensures
      ∙ c.if-not-is_whole_flex.false)).1 _ _ c.commit-c.ensures.step c.if-c-ne0.false
      c.cmds-1.given _ _ c.list_flex-e.ensures.meets c.list_flex-e.ensures.plain.groups c.if-e-ne0.false _ c.made-then-p-gt254.ensures
      c.if-p-gt254.true;
  space = flex_space c.args.st _ c.made-then-p-gt254.result.st _ c.commit-c.ensures.path (ap (λ (q : Ran). q.st.groups) c.made-then-p-gt254.ensures ∙ c.list_flex-e.ensures.plain.groups);
}

pub returns : goal.returns
returns c = record {
  meets = ends_done _ _ _ _ _ _ _ (whole_told c.args.st.flexing
      c.args.st.points (sym c.is_whole_flex.ensures
      ∙ c.if-not-is_whole_flex.false)).0 (whole_told c.args.st.flexing
      c.args.st.points (sym c.is_whole_flex.ensures
      ∙ c.if-not-is_whole_flex.false)).1 _ _ c.commit-c.ensures.step
      c.if-c-ne0.false c.cmds-1.given _ _ c.list_flex-e.ensures.meets
      c.list_flex-e.ensures.plain.groups c.if-e-ne0.false _ c.made-2.ensures
      c.if-p-gt254.false;
  space = flex_space c.args.st _ c.made-2.result.st _ c.commit-c.ensures.path (ap (λ (q : Ran). q.st.groups) c.made-2.ensures
      ∙ c.list_flex-e.ensures.plain.groups);
}
