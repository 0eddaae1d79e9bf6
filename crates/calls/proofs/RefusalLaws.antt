-- Refusals: which number a list of checks gives, and what each call's acceptance says, refusal by refusal.
-- Document 01, 'Calls': the lowest number that holds is returned, and an accepted call returns number 0. Assumes nothing.
use Prim.Native.Nat.{ℕ, zero, suc, ◌≤◌, ◌<◌}
use native.Mathlib.Omega.{arith}
use mathlib.Core.Path.{◌≡◌, refl, ap, sym, subst}
use mathlib.Core.Logic.Iff
use mathlib.Core.Logic.{◌↔◌, ◌⊎◌, inl, inr}
use mathlib.Core.Bool.{Bool, true, false, cond, ◌&&◌, true≢false, false≢true}
use mathlib.Core.List.Memᴰ
use mathlib.Core.List.{List, [], ◌∷◌, ◌++◌, Memᴰ}
use lib.Dec.{ltb}
use lib.ListN.{length, take}
use borrow.Author.Tests.{ltb-true}
use Rattle.calls.specs.declared.Refusal.TheVariants.{TermsTooLong, BrokenGrammar, FieldOutOfRange, CitationTooHigh, NothingShared, UsedTooLong, BrokenRecord, KeyRepeats, PageTooShort, NotOneRecord, KeyPresent, NoRoom, NoSchema, NoSubject}
use Rattle.meaning.specs.declared.Entries.{Entries}
use Rattle.meaning.specs.declared.Row.{Row}
use Rattle.meaning.specs.Lists.{All}
use Rattle.meaning.specs.Log.{key_repeats}
use Rattle.format.specs.Grammar.{file_of, breaks_grammar}
use Rattle.format.specs.Fields.{field_wrong, citation_wrong, unshared_event, terms_of}
use Rattle.format.specs.Records.{record_from, broken_record, log_of, not_one_record}
use Rattle.calls.specs.Calls.{Check, refusal, terms_limit, terms_too_long, used_too_long, key_present, no_room, page_too_short, no_schema, terms_checks, used_checks, record_checks, log_checks, event_checks, page_checks, rows_of, missing, standing_subject, key_checks, checked, check_terms, check_log, Outcome, unless_refused, append, on_page, report, standing_as, standing}
use Rattle.calls.specs.Lasting.{Accepted}
use Rattle.meaning.proofs.ListLaws.{all_append}
use Rattle.meaning.proofs.MemberLaws.{member-has}
use Rattle.format.proofs.LengthLaws.{long-breaks}
use Rattle.calls.proofs.AnswerLaws.{refusal-positive}

-- no check of a list holds
abbrev pub NoneHolds : List Check → Type 0
NoneHolds checks = All (λ (c : Check). c.holds ≡ false) checks

-- a check does not have the number 0
abbrev pub Positive : Check → Type 0
Positive c = 1 ≤ c.number

-- no check of a list has
abbrev pub Numbered : List Check → Type 0
Numbered checks = All Positive checks

-- where none has, the answer is 0 exactly if no check holds
pub refusal-none : (checks : List Check) → Numbered checks → (refusal checks ≡ 0) ↔ NoneHolds checks
unfolding refusal
refusal-none [] n = (λ e. tt, λ e. refl)
refusal-none (c ∷ checks) n = go c.holds (refusal-none checks n.1)
  where
    go : (b : Bool) → (refusal checks ≡ 0) ↔ NoneHolds checks → (cond b c.number (refusal checks) ≡ 0) ↔ ((b ≡ false) × NoneHolds checks)
    go true ih = (λ e. absurd (omega arith), λ e. absurd (true≢false e.0))
    go false ih = (λ e. (refl, ih.0 e), λ e. ih.1 e.1)

-- where a check in front holds, those after it do not count
pub refusal-ahead : (a b : List Check) → 1 ≤ refusal a → refusal (a ++ b) ≡ refusal a
unfolding refusal
refusal-ahead [] b h = absurd (omega arith)
refusal-ahead (c ∷ a) b h = go c.holds h (refusal-ahead a b)
  where
    go : (x : Bool) → 1 ≤ cond x c.number (refusal a) → (1 ≤ refusal a → refusal (a ++ b) ≡ refusal a)
        → cond x c.number (refusal (a ++ b)) ≡ cond x c.number (refusal a)
    go true h ih = refl
    go false h ih = ih h

-- where none in front holds, those after them decide
pub refusal-behind : (a b : List Check) → NoneHolds a → refusal (a ++ b) ≡ refusal b
unfolding refusal
refusal-behind [] b n = refl
refusal-behind (c ∷ a) b n = rw n.0 (refusal-behind a b n.1)

-- the first check that holds in a list, with its number n
pub record FirstThatHolds (checks : List Check) (n : ℕ) : Type 0 where
  -- the checks before it
  pub ahead : List Check
  -- it
  pub check : Check
  -- the checks after it
  pub behind : List Check
  -- these are the list
  pub place : checks ≡ ahead ++ (check ∷ behind)
  -- it has the number
  pub numbered : check.number ≡ n
  -- it holds
  pub holds : check.holds ≡ true
  -- none before it holds
  pub none_ahead : NoneHolds ahead

-- a number other than 0 is that of the first check that holds
pub refusal-first : (checks : List Check) (n : ℕ) → refusal checks ≡ n → 1 ≤ n → FirstThatHolds checks n
unfolding refusal
refusal-first [] n e h = absurd (omega arith)
refusal-first (c ∷ checks) n e h = go c.holds refl e (λ e. refusal-first checks n e h)
  where
    go : (b : Bool) → c.holds ≡ b → cond b c.number (refusal checks) ≡ n → (refusal checks ≡ n → FirstThatHolds checks n) → FirstThatHolds (c ∷ checks) n
    go true p e ih = record { ahead = []; check = c; behind = checks; place = refl; numbered = e; holds = p; none_ahead = tt }
    go false p e ih = let f = ih e in record {
      ahead = c ∷ f.ahead;
      check = f.check;
      behind = f.behind;
      place = ap (λ (l : List Check). c ∷ l) f.place;
      numbered = f.numbered;
      holds = f.holds;
      none_ahead = (p, f.none_ahead);
    }

-- whether each number of a list is above the one before, and the first above n
unfoldable pub rises_from : ℕ → List Check → Bool
rises_from n [] = true
rises_from n (c ∷ checks) = ltb n c.number && rises_from c.number checks

-- what a rising list's head and rest are
rises-parts : (n : ℕ) (c : Check) (checks : List Check) → rises_from n (c ∷ checks) ≡ true → (n < c.number) × (rises_from c.number checks ≡ true)
unfolding rises_from
rises-parts n c checks e = go (ltb n c.number) refl e
  where
    go : (b : Bool) → ltb n c.number ≡ b → (b && rises_from c.number checks) ≡ true → (n < c.number) × (rises_from c.number checks ≡ true)
    go true p e = (ltb-true n c.number p, e)
    go false p e = absurd (false≢true e)

-- the numbers of a list that rises from n are above n
pub rises-above : (n m : ℕ) (checks : List Check) → m ≤ n → rises_from n checks ≡ true → All (λ (c : Check). suc m ≤ c.number) checks
rises-above n m [] h e = tt
rises-above n m (c ∷ checks) h e = let p = rises-parts n c checks e in (omega arith, rises-above c.number m checks (omega arith) p.1)

-- where the numbers rise, the answer is at most the number of any check that holds: the lowest number that holds is returned
pub refusal-lowest : (n : ℕ) (checks : List Check) → rises_from n checks ≡ true → (c : Check) → Memᴰ c checks → c.holds ≡ true
    → refusal checks ≤ c.number
unfolding refusal
refusal-lowest n [] e c m h = absurd (Memᴰ.not-nil m)
refusal-lowest n (d ∷ checks) e c m h = go d.holds refl (Memᴰ.cases_cons m) (refusal-lowest d.number checks rest c)
  where
    rest : rises_from d.number checks ≡ true
    rest = (rises-parts n d checks e).1

    go : (b : Bool) → d.holds ≡ b → (c ≡ d) ⊎ Memᴰ c checks → (Memᴰ c checks → c.holds ≡ true → refusal checks ≤ c.number)
        → cond b d.number (refusal checks) ≤ c.number
    go true p (inl q) ih = omega (arith, ap (λ (x : Check). x.number) q)
    go true p (inr m) ih = omega (arith, member-has (λ (x : Check). d.number < x.number) checks (rises-above d.number d.number checks (omega arith) rest) m)
    go false p (inl q) ih = absurd (let z : ◌≡◌ {A = ℕ} 0 1 = cc in omega arith)
    go false p (inr m) ih = ih m h

-- the answer is 0 or the number of a check in the list that holds
pub refusal-listed : (checks : List Check) → (refusal checks ≡ 0) ⊎ ((c : Check) × Memᴰ c checks × (c.holds ≡ true) × (c.number ≡ refusal checks))
refusal-listed checks = go (refusal checks) refl
  where
    go : (n : ℕ) → refusal checks ≡ n → (n ≡ 0) ⊎ ((c : Check) × Memᴰ c checks × (c.holds ≡ true) × (c.number ≡ n))
    go zero e = inl refl
    go (suc n) e =
        let f = refusal-first checks (suc n) e (omega arith) in
        inr (f.check, subst (Memᴰ f.check) (sym f.place) (Memᴰ.append_right f.ahead (Memᴰ.head refl)), f.holds, f.numbered)

-- the numbers of each call's checks rise
pub record Rising (w : ℕ) (terms log : List ℕ) (used : ℕ) : Type 0 where
  -- call 1
  pub terms-rise : rises_from 0 (terms_checks terms) ≡ true
  -- call 2
  pub log-rises : rises_from 0 (log_checks w terms log used) ≡ true
  -- call 3
  pub append-rises : (event : List ℕ) → rises_from 0 (log_checks w terms log used ++ event_checks w terms log used event) ≡ true
  -- call 4
  pub report-rises : (rows : List Row) (page : List ℕ) → rises_from 0 (log_checks w terms log used ++ page_checks w rows page) ≡ true
  -- call 5
  pub standing-rises : (schema key m : ℕ) → rises_from 0 (log_checks w terms log used ++ key_checks w terms log used schema key m) ≡ true

-- each call's refusals stand in the table's order
pub rising : (w : ℕ) (terms log : List ℕ) (used : ℕ) → Rising w terms log used
unfolding rises_from terms_checks used_checks record_checks log_checks event_checks page_checks key_checks
rising w terms log used = record {
  terms-rise = refl;
  log-rises = refl;
  append-rises = λ event. refl;
  report-rises = λ rows page. refl;
  standing-rises = λ schema key m. refl;
}

-- where refusal 1 holds, refusal 2 holds too: 1 is never the only fault
pub too-long-breaks : (terms : List ℕ) → terms_too_long terms ≡ true → breaks_grammar (file_of terms) ≡ true
unfolding terms_too_long terms_limit
too-long-breaks terms e = long-breaks terms (omega (arith, ltb-true terms_limit (length terms) e))

-- each check of terms is a refusal's, and no refusal has the number 0
terms-numbered : (terms : List ℕ) → Numbered (terms_checks terms)
unfolding terms_checks
terms-numbered terms =
    (refusal-positive TermsTooLong, (refusal-positive BrokenGrammar, (refusal-positive FieldOutOfRange, (refusal-positive CitationTooHigh, (refusal-positive NothingShared, tt)))))

-- so is each check of terms and log
pub log-numbered : (w : ℕ) (terms log : List ℕ) (used : ℕ) → Numbered (log_checks w terms log used)
unfolding log_checks used_checks record_checks
log-numbered w terms log used =
    all_append Positive (terms_checks terms) _ (terms-numbered terms)
    (refusal-positive UsedTooLong, (refusal-positive BrokenRecord, (refusal-positive KeyRepeats, tt)))

-- accepted terms: none of the refusals 1 to 5 holds
pub record TermsAccepted (terms : List ℕ) : Type 0 where
  -- 1: not too long
  pub short : terms_too_long terms ≡ false
  -- 2: the grammar is kept
  pub grammar : breaks_grammar (file_of terms) ≡ false
  -- 3: every field is in range
  pub fields : field_wrong (file_of terms) ≡ false
  -- 4: citations are of smaller rank
  pub citations : citation_wrong (terms_of terms) ≡ false
  -- 5: every event shares an attribute with the subject kind
  pub shared : unshared_event (terms_of terms) ≡ false

-- an accepted log: nor any of 6, 7 and 9
pub record LogAccepted (w : ℕ) (terms log : List ℕ) (used : ℕ) : Type 0 where
  -- 1 to 5
  pub terms-ok : TermsAccepted terms
  -- 6: the used length is within the limit and the buffer
  pub used-fits : used_too_long log used ≡ false
  -- 7: the used bytes are whole records
  pub whole : broken_record w (terms_of terms) (take used log) ≡ false
  -- 9: no kind and key stands twice
  pub once : key_repeats (terms_of terms) (log_of w terms log used) ≡ false

-- an accepted append: nor any of 11, 13 and 14
pub record AppendAccepted (w : ℕ) (terms log : List ℕ) (used : ℕ) (event : List ℕ) : Type 0 where
  -- 1 to 7 and 9
  pub log-ok : LogAccepted w terms log used
  -- 11: exactly one record
  pub one-record : not_one_record w (terms_of terms) event ≡ false
  -- 13: of a new kind and key
  pub new : key_present (terms_of terms) (record_from w (terms_of terms) event) (log_of w terms log used) ≡ false
  -- 14: it fits the buffer and the limit
  pub event_fits : no_room log used event ≡ false

-- an accepted standing: nor 15, 16
pub record StandingAccepted (w : ℕ) (terms log : List ℕ) (used schema key m : ℕ) : Type 0 where
  -- 1 to 7 and 9
  pub log-ok : LogAccepted w terms log used
  -- 15: the schema is there
  pub schema-there : no_schema (terms_of terms) schema ≡ false
  -- 16: the subject is there
  pub subject-there : missing (standing_subject w terms log used schema key m) ≡ false

-- no check of two lists joined holds, exactly if none of either does
none-append : (a b : List Check) → NoneHolds (a ++ b) ↔ (NoneHolds a × NoneHolds b)
none-append [] b = (λ h. (tt, h), λ h. h.1)
none-append (c ∷ a) b =
    let ih = none-append a b in
    (λ h. ((h.0, (ih.0 h.1).0), (ih.0 h.1).1), λ h. (h.0.0, ih.1 (h.0.1, h.1)))

-- no check of 1 to 5 holds, exactly if the terms are accepted
pub terms-none : (terms : List ℕ) → NoneHolds (terms_checks terms) ↔ TermsAccepted terms
unfolding terms_checks
terms-none terms = (
  λ h. record { short = h.0; grammar = h.1.0; fields = h.1.1.0; citations = h.1.1.1.0; shared = h.1.1.1.1.0 },
  λ a. (a.short, (a.grammar, (a.fields, (a.citations, (a.shared, tt))))),
)

-- no check of 1 to 7 and 9 holds, exactly if the log is accepted
log-none : (w : ℕ) (terms log : List ℕ) (used : ℕ) → NoneHolds (log_checks w terms log used) ↔ LogAccepted w terms log used
unfolding log_checks used_checks record_checks log_of
log-none w terms log used =
    Iff.trans (none-append (terms_checks terms) _) (
      λ h. record {
        terms-ok = (terms-none terms).0 h.0;
        used-fits = h.1.0;
        whole = h.1.1.0;
        once = h.1.1.1.0;
      },
      λ a. ((terms-none terms).1 a.terms-ok, (a.used-fits, (a.whole, (a.once, tt)))),
    )

-- the refusals of a call that takes terms and log: 1 to 7 and 9, then its own
beyond-log : (w : ℕ) (terms log : List ℕ) (used : ℕ) (own : List Check) → Numbered own
    → (refusal (log_checks w terms log used ++ own) ≡ 0) ↔ (LogAccepted w terms log used × NoneHolds own)
beyond-log w terms log used own n =
    Iff.trans (refusal-none (log_checks w terms log used ++ own) (all_append Positive (log_checks w terms log used) own (log-numbered w terms log used) n))
    (Iff.trans (none-append (log_checks w terms log used) own) (Iff.and (log-none w terms log used) Iff.rfl))

-- call 1 accepts exactly the terms to which none of 1 to 5 applies
pub terms-accepted : (terms : List ℕ) → ((check_terms terms).number ≡ 0) ↔ TermsAccepted terms
unfolding check_terms checked
terms-accepted terms = Iff.trans (refusal-none (terms_checks terms) (terms-numbered terms)) (terms-none terms)

-- call 2 accepts exactly the logs to which none of 1 to 7 and 9 applies
pub log-accepted : (w : ℕ) (terms log : List ℕ) (used : ℕ) → ((check_log w terms log used).number ≡ 0) ↔ LogAccepted w terms log used
unfolding check_log checked
log-accepted w terms log used = Iff.trans (refusal-none (log_checks w terms log used) (log-numbered w terms log used)) (log-none w terms log used)

-- under an accepted log a call's own refusals decide
pub own-decide : (w : ℕ) (terms log : List ℕ) (used : ℕ) → LogAccepted w terms log used → (own : List Check) → refusal (log_checks w terms log used ++ own) ≡ refusal own
unfolding check_log checked
own-decide w terms log used ok own =
    refusal-behind (log_checks w terms log used) own ((refusal-none (log_checks w terms log used) (log-numbered w terms log used)).0 ((log-accepted w terms log used).1 ok))

-- the number of a call that may write is the refusal's
refused-number : (n : ℕ) (buffer : List ℕ) (o : Outcome) → Accepted o → (unless_refused n buffer o).answer.number ≡ n
unfolding unless_refused
refused-number zero buffer o a = a
refused-number (suc n) buffer o a = refl

-- call 3 returns the number of its refusals
pub append-number : (w : ℕ) (terms log : List ℕ) (used : ℕ) (event : List ℕ)
    → (append w terms log used event).answer.number ≡ refusal (log_checks w terms log used ++ event_checks w terms log used event)
unfolding append
append-number w terms log used event = refused-number _ _ _ refl

-- so does call 4
pub report-number : (w : ℕ) (terms log : List ℕ) (used m : ℕ) (page : List ℕ)
    → (report w terms log used m page).answer.number ≡ refusal (log_checks w terms log used ++ page_checks w (rows_of w terms log used m) page)
unfolding report on_page
report-number w terms log used m page = refused-number _ _ _ refl

-- so does call 5
pub standing-number : (w : ℕ) (terms log : List ℕ) (used schema key m : ℕ)
    → (standing w terms log used schema key m).number ≡ refusal (log_checks w terms log used ++ key_checks w terms log used schema key m)
unfolding standing standing_as
standing-number w terms log used schema key m = go _ _
  where
    go : (n : ℕ) (e : Entries) → (standing_as n e).number ≡ n
    go zero e = refl
    go (suc n) e = refl

-- call 3 accepts exactly the events to which none of 1 to 7, 9, 11, 13 and 14 applies
pub append-accepted : (w : ℕ) (terms log : List ℕ) (used : ℕ) (event : List ℕ)
    → Accepted (append w terms log used event) ↔ AppendAccepted w terms log used event
unfolding event_checks
append-accepted w terms log used event =
    rw append-number (Iff.trans (beyond-log w terms log used _ (refusal-positive NotOneRecord, (refusal-positive KeyPresent, (refusal-positive NoRoom, tt)))) (
      λ h. record { log-ok = h.0; one-record = h.1.0; new = h.1.1.0; event_fits = h.1.1.1.0 },
      λ a. (a.log-ok, (a.one-record, (a.new, (a.event_fits, tt)))),
    ))

-- call 4 accepts exactly the reports to which none of 1 to 7, 9 and 10 applies
pub report-accepted : (w : ℕ) (terms log : List ℕ) (used m : ℕ) (page : List ℕ) → Accepted (report w terms log used m page)
    ↔ (LogAccepted w terms log used × (page_too_short w (rows_of w terms log used m) page ≡ false))
unfolding page_checks
report-accepted w terms log used m page =
    rw report-number (Iff.trans (beyond-log w terms log used _ (refusal-positive PageTooShort, tt)) (λ h. (h.0, h.1.0), λ a. (a.0, (a.1, tt))))

-- call 5 accepts exactly the questions to which none of 1 to 7, 9, 15 and 16 applies
pub standing-accepted : (w : ℕ) (terms log : List ℕ) (used schema key m : ℕ) → ((standing w terms log used schema key m).number ≡ 0)
    ↔ StandingAccepted w terms log used schema key m
unfolding key_checks
standing-accepted w terms log used schema key m =
    rw standing-number (Iff.trans (beyond-log w terms log used _ (refusal-positive NoSchema, (refusal-positive NoSubject, tt))) (
      λ h. record { log-ok = h.0; schema-there = h.1.0; subject-there = h.1.1.0 },
      λ a. (a.log-ok, (a.schema-there, (a.subject-there, tt))),
    ))
