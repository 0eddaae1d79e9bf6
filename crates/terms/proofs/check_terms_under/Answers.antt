-- `check_terms_under` meets its contract: the refusals in the order of the table. Assumes nothing.
use mathlib.Core.Path.{◌≡◌, sym, ◌∙◌}
use mathlib.Core.Bool.{false}
use borrow.Author.Rules.{rules}
use borrow.Author.Tests.{lt-ltb, le-ltb}
use Rattle.format.specs.Grammar.{file_of, breaks_grammar}
use Rattle.format.specs.Fields.{field_wrong, cites_too_high, citation_wrong, unshared_event, terms_of}
use Rattle.calls.specs.Answers.{checked_answer}
use Rattle.calls.specs.Calls.{refusal, terms_limit, terms_too_long, terms_checks, checked, check_terms}
use Rattle.terms.proofs.Faults.{unshared-fault, citation-faults, unshared-faults}
use Rattle.terms.proofs.check_terms_under.Goals.{After-some_below, After-some_below-2, Else-breaks_grammar, Else-field_wrong, Else-outline-gt-TERMS_LIMIT}
use Rattle.terms.proofs.check_terms_under.Goals as goal

-- 1 does not hold
short : (c : Else-outline-gt-TERMS_LIMIT) → terms_too_long c.args.outline.now.terms.now ≡ false
unfolding terms_too_long terms_limit
short c = le-ltb _ _ c.if-outline-gt-TERMS_LIMIT.false

-- nor 2
kept : (c : Else-breaks_grammar) → breaks_grammar (file_of c.args.outline.now.terms.now) ≡ false
kept c = sym c.breaks_grammar.ensures ∙ c.if-breaks_grammar.false

-- nor 3
right : (c : Else-field_wrong) → field_wrong (file_of c.args.outline.now.terms.now) ≡ false
right c = rw (← c.of-places.ensures.0) (sym c.field_wrong.ensures ∙ c.if-field_wrong.false)

-- what is asked for 4
cites : (c : After-some_below) → c.some_below.result ≡ citation_wrong (terms_of c.args.outline.now.terms.now)
cites c =
    let places = c.of-places.result in
    rw (← c.of-places.ensures.0, citation-faults, ← places.placed.1) (c.some_below.ensures (cites_too_high (terms_of places.terms.now)) (λ n b h post. search rules))

-- and for 5
unshared : (c : After-some_below-2) → c.some_below-2.result ≡ unshared_event (terms_of c.args.outline.now.terms.now)
unshared c =
    let places = c.of-places.result in
    rw (← c.of-places.ensures.0, unshared-faults, ← places.placed.1) (c.some_below-2.ensures (unshared-fault places.terms.now) (λ n b h post. search rules))

-- nor 4
low : (c : After-some_below) → c.some_below.result ≡ false → citation_wrong (terms_of c.args.outline.now.terms.now) ≡ false
low c e = sym (cites c) ∙ e

pub returns-then-outline-gt-TERMS_LIMIT : goal.returns-then-outline-gt-TERMS_LIMIT
unfolding checked_answer check_terms checked terms_checks refusal terms_too_long terms_limit
returns-then-outline-gt-TERMS_LIMIT c = rw (lt-ltb _ _ c.if-outline-gt-TERMS_LIMIT.true)

pub returns-then-breaks_grammar : goal.returns-then-breaks_grammar
unfolding checked_answer check_terms checked terms_checks refusal
returns-then-breaks_grammar c = rw (short (goal.at.returns-then-breaks_grammar c).Else-outline-gt-TERMS_LIMIT, sym c.breaks_grammar.ensures ∙ c.if-breaks_grammar.true)

pub returns-then-field_wrong : goal.returns-then-field_wrong
unfolding checked_answer check_terms checked terms_checks refusal
returns-then-field_wrong c = rw (short (goal.at.returns-then-field_wrong c).Else-outline-gt-TERMS_LIMIT, kept (goal.at.returns-then-field_wrong c).Else-breaks_grammar, rw c.of-places.ensures.0 at (sym c.field_wrong.ensures ∙ c.if-field_wrong.true))

pub returns-then-some_below : goal.returns-then-some_below
unfolding checked_answer check_terms checked terms_checks refusal
returns-then-some_below c =
    rw (short (goal.at.returns-then-some_below c).Else-outline-gt-TERMS_LIMIT, kept (goal.at.returns-then-some_below c).Else-breaks_grammar, right (goal.at.returns-then-some_below c).Else-field_wrong, sym (cites (goal.at.returns-then-some_below c).After-some_below) ∙ c.if-some_below.true)

pub returns-then-some_below-2 : goal.returns-then-some_below-2
unfolding checked_answer check_terms checked terms_checks refusal
returns-then-some_below-2 c =
    rw (short (goal.at.returns-then-some_below-2 c).Else-outline-gt-TERMS_LIMIT, kept (goal.at.returns-then-some_below-2 c).Else-breaks_grammar, right (goal.at.returns-then-some_below-2 c).Else-field_wrong, low (goal.at.returns-then-some_below-2 c).After-some_below c.if-some_below.false, sym (unshared (goal.at.returns-then-some_below-2 c).After-some_below-2) ∙ c.if-some_below-2.true)

pub returns : goal.returns
unfolding checked_answer check_terms checked terms_checks refusal
returns c =
    rw (short (goal.at.returns c).Else-outline-gt-TERMS_LIMIT, kept (goal.at.returns c).Else-breaks_grammar, right (goal.at.returns c).Else-field_wrong, low (goal.at.returns c).After-some_below c.if-some_below.false, sym (unshared (goal.at.returns c).After-some_below-2) ∙ c.if-some_below-2.false)
