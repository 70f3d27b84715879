-- What each answer says of a line: which lines are answered 1, which 2, and that all others are
-- texts of entries within the limits.
use Prim.Native.Nat.{ℕ, ◌≤◌}
use native.Mathlib.Omega.{arith}
use mathlib.Core.Bool.{Bool, true, false, not, cond}
use mathlib.Core.List.{List, ◌∷◌}
use mathlib.Core.Option.{Option}
use mathlib.Core.Path.{◌≡◌, refl, sym, ◌∙◌, ap}
use lib.Dec.{eqb, ltb}
use lib.ListN.{get_or, length}
use borrow.Author.Tests.{le-ltb, lt-ltb}
use Rattle.log_entry.specs.declared.Entry.{Entry}
use Rattle.log_entry.specs.Entry.{by_of, ill_formed, is_take, outside, tx_of}
use Rattle.log_entry.specs.Refusal.{accepted, check, first_refusal, holds_another, ill_formed_vote, kept_already, not_holder, other_list, outside_limits, unreadable, wrong_turn}
use Rattle.log_core.specs.declared.Log.{Log}
use Rattle.log_core.specs.Decide.{refusal}
use Rattle.log_core.specs.Enter.{answered, enter}
use Rattle.log_core.proofs.EnterLaws.{answer_is, enter_outside as entered-outside, refusal_of}
use Rattle.log_core.specs.Log.{holder_of, latest_of, row_of, turn_of}
use Rattle.log_core.specs.Refusal as log
use Rattle.log_core.specs.Refusal.{take_checks}
use Rattle.log_votes.specs.Row.{no_vote}
use Rattle.log_votes.specs.Vote.{vote_kept}
use Rattle.log_votes.specs.Refusal.{any_clash, vote_checks}
use Rattle.text_entry.specs.declared.Unread.{Unread}
use Rattle.text_entry.specs.declared.Unread.TheVariants.{Outside, Unreadable}
use Rattle.std.specs.Prelude.{Result, Ok, Err}
use Rattle.text_entry.specs.Claims.{IsText}
use Rattle.text_entry.specs.Entry.{beyond, reading, reading_of}
use Rattle.text_entry.proofs.Agreement.{outside_line_is_text, read_line_is_text, reads_exactly, text_beyond}
use Rattle.text_lines.specs.Lines.{max_line_bytes}
use Rattle.plain_run.specs.Claims.{Answered2IsOutside, LongLineIsUnreadable, OtherLineIsUnreadable, TextIsEntered, TextOutsideLimits}
use Rattle.plain_run.specs.Plain.{enter_line, entering}

enter_outside : (l : Log) (e : Entry) → outside l.stores e ≡ true → enter l e ≡ answered l outside_limits
enter_outside l e h = sym (entered-outside l e h)

short_line : (l : Log) (s : List ℕ) → length s ≤ max_line_bytes → enter_line l s ≡ entering l (reading s)
unfolding enter_line
short_line l s h = rw (le-ltb max_line_bytes (length s) h)

entered : (l : Log) (s : List ℕ) (e : Entry) → IsText s e → (b : Bool) → beyond e ≡ b → entering l (cond b (Err Outside) (Ok e)) ≡ enter l e
entered l s e t true h = sym (enter_outside l e (text_beyond l.stores s e t h))
entered l s e t false h = refl

pub text_is_entered : TextIsEntered
text_is_entered l s e t h =
    short_line l s h ∙ ap (λ (o : Option Entry). entering l (reading_of o)) ((reads_exactly s e).1 t) ∙ entered l s e t (beyond e) refl

pub text_outside_limits : TextOutsideLimits
text_outside_limits l s e t h o = text_is_entered l s e t h ∙ enter_outside l e o

pub long_line_is_unreadable : LongLineIsUnreadable
unfolding enter_line
long_line_is_unreadable l s h = rw (lt-ltb max_line_bytes (length s) h)

pub other_line_is_unreadable : OtherLineIsUnreadable
unfolding enter_line
other_line_is_unreadable l s h = go (ltb max_line_bytes (length s)) (reading s) refl
  where
    go : (b : Bool) (r : Result Entry Unread) → reading s ≡ r → cond b (answered l unreadable) (entering l r) ≡ answered l unreadable
    go true r k = refl
    go false (Ok e) k = absurd (h e (read_line_is_text s e k))
    go false (Err Outside) k = let t = outside_line_is_text s k in absurd (h t.0 t.1)
    go false (Err Unreadable) k = refl

-- no other refusal of an entry has the number 2
take_not_2 : (a b : Bool) → cond a holds_another (cond b wrong_turn accepted) ≡ outside_limits → ⊥
take_not_2 true b h = grind (arith, h)
take_not_2 false true h = grind (arith, h)
take_not_2 false false h = grind (arith, h)

vote_not_2 : (a b c d t : Bool)
    → cond a ill_formed_vote (cond b not_holder (cond c other_list (cond d kept_already (cond t wrong_turn accepted)))) ≡ outside_limits → ⊥
vote_not_2 true b c d t h = grind (arith, h)
vote_not_2 false true c d t h = grind (arith, h)
vote_not_2 false false true d t h = grind (arith, h)
vote_not_2 false false false true t h = grind (arith, h)
vote_not_2 false false false false true h = grind (arith, h)
vote_not_2 false false false false false h = grind (arith, h)

refused_2 : (l : Log) (e : Entry) → refusal_of l e ≡ outside_limits → outside l.stores e ≡ true
unfolding refusal first_refusal
refused_2 l e h = go (outside l.stores e) refl
  where
    never : outside l.stores e ≡ false → (t : Bool)
        → first_refusal
        (check outside_limits (outside l.stores e)
        ∷ cond t
        (take_checks l.holders (get_or l.takers e.store 0) (latest_of l e.process) e)
        (vote_checks (row_of l (tx_of e)) (holder_of l (by_of e)) (turn_of l (by_of e)) e))
        ≡ outside_limits
        → ⊥
    never k true h =
        take_not_2 (log.holds_another l.holders e.process e.store) (log.wrong_turn (get_or l.takers e.store 0) (latest_of l e.process) e) (rw k at h)
    never k false h =
        vote_not_2 (ill_formed e) (not (eqb (holder_of l (by_of e)) e.process)) (any_clash e (row_of l (tx_of e)).votes) (vote_kept (get_or (row_of l (tx_of e)).votes e.store no_vote)) (not (eqb (turn_of l (by_of e)) e.turn)) (rw k at h)

    go : (o : Bool) → outside l.stores e ≡ o → o ≡ true
    go true k = refl
    go false k = absurd (never k (is_take e) h)

pub answered_2_is_outside : Answered2IsOutside
unfolding enter_line
answered_2_is_outside l s h = go (ltb max_line_bytes (length s)) (reading s) refl h
  where
    go : (b : Bool) (r : Result Entry Unread) → reading s ≡ r → (cond b (answered l unreadable) (entering l r)).answer ≡ outside_limits → (e : Entry) × IsText s e × (outside l.stores e ≡ true)
    go true r k h = absurd (grind (arith, h))
    go false (Ok e) k h = (e, read_line_is_text s e k, refused_2 l e (sym (answer_is l e) ∙ h))
    go false (Err Outside) k h = let t = outside_line_is_text s k in (t.0, t.1, t.2 l.stores)
    go false (Err Unreadable) k h = absurd (grind (arith, h))
