-- The values of a vote's line and the vote that they make.
use Prim.Native.Nat.{ℕ, suc, ◌<◌, ◌^◌}
use native.Mathlib.Omega.{arith}
use mathlib.Core.Bool.{Bool, true, false, true≢false}
use mathlib.Core.List.{List, [], ◌∷◌}
use mathlib.Core.Logic.{◌⊎◌, inl, inr}
use mathlib.Core.Option.{some}
use mathlib.Core.Path.{◌≡◌, refl, sym, ◌∙◌, ap, subst}
use lib.Dec.{eqb}
use Rattle.text_ascii.specs.Bytes.{ascii}
use Rattle.text_ascii.proofs.Words.{clash}
use Rattle.log_entry.specs.declared.Entry.{Entry}
use Rattle.log_entry.specs.declared.Request.{Request}
use Rattle.log_entry.specs.declared.Request.TheVariants.{Take, Vote}
use Rattle.log_entry.specs.declared.Say.{Say}
use Rattle.log_entry.specs.declared.Say.TheVariants.{Abort, Commit}
use Rattle.log_entry.specs.Entry.{say_of as said_of}
use Rattle.log_entry.specs.Entry.{in_is_take, is_commit, is_take, list_of, says_commit, update_in, vote_entry}
use Rattle.log_entry.specs.Limits.{lists}
use Rattle.text_ascii.specs.Hex.{earlier_digits, update_digits}
use Rattle.std.proofs.Common.{Ok, Err}
use Rattle.text_entry.specs.declared.Unread.TheVariants.{Outside}
use Rattle.text_entry.specs.Entry.{HasTurnIn, Known, Way, beyond, reading_of, say_of, turn_in, vote_of, vote_values}
use Rattle.text_entry.specs.Fields.{Field, Form, Kind, Presence, in_hex, kind}
use Rattle.text_entry.specs.Kinds.{by, list, proc, say, store, turn, turn_presence, tx, upd, update_form, vote_kind, vote_with}
use Rattle.text_entry.specs.Table.{any_beyond, at}
use Rattle.text_entry.proofs.Counts.{at_counts, beyond_before}
use Rattle.text_entry.proofs.DecimalLaws.{capped_all, capped_same}
use Rattle.text_entry.proofs.Fronts.{counts}
use Rattle.text_entry.proofs.Table.{elements}
use Rattle.text_entry.proofs.LineTexts.{LineIs, WritableAll, in_first, in_second, one_text_all, which_digits}
use Rattle.text_entry.proofs.TextReads.{OtherKeys, SoundAll, apart, clash_all}
use Rattle.text_entry.proofs.Turns.{known_turn, turn_writable, which_turn}

pub outside_by : (e : Entry) → beyond e ≡ true → reading_of (some e) ≡ Err Outside
outside_by e h = rw h

pub read_by : (e : Entry) → beyond e ≡ false → reading_of (some e) ≡ Ok e
read_by e h = rw h

-- only the counts of a vote's decimals matter
vote_outside : (p t b s x l : ℕ) (c : Bool) (u : ℕ) → any_beyond (p ∷ t ∷ b ∷ s ∷ x ∷ []) ≡ true → reading_of (some (vote_entry p t b s x l c u)) ≡ Err Outside
vote_outside p t b s x l c u h = outside_by (vote_entry p t b s x l c u) (beyond_before (p ∷ t ∷ b ∷ s ∷ x ∷ []) (l ∷ []) h)

pub vote_counts : (vs : List ℕ) → reading_of (some (vote_of vs)) ≡ reading_of (some (vote_of (counts vote_kind.fields vs)))
vote_counts vs =
    let k = at_counts vote_kind.fields vs in
    let l = at vs 5 in
    let c = eqb (at vs 6) 1 in
    let u = at vs 7 in
    let ns = at vs 0 ∷ at vs 1 ∷ at vs 2 ∷ at vs 3 ∷ at vs 4 ∷ [] in
    let ms = capped_all ns in
    capped_same (λ (ks : List ℕ). reading_of (some (vote_entry (at ks 0) (at ks 1) (at ks 2) (at ks 3) (at ks 4) l c u))) (Err Outside) ns
    (vote_outside (at ns 0) (at ns 1) (at ns 2) (at ns 3) (at ns 4) l c u) (vote_outside (at ms 0) (at ms 1) (at ms 2) (at ms 3) (at ms 4) l c u)
    ∙ (λ i. reading_of (some (vote_entry (sym (k 0) i) (sym (k 1) i) (sym (k 2) i) (sym (k 3) i) (sym (k 4) i) (sym (k 5) i) (eqb (sym (k 6) i) 1) (sym (k 7) i))))

say_fits : (c : Bool) → say_of c < 2
say_fits true = omega arith
say_fits false = omega arith

-- a vote whose turn, list and update have their texts has values with texts, and is made of them
pub vote_writable : (w : Way) (e : Entry) → HasTurnIn w.shown e.turn → list_of e < lists → update_in e < 16 ^ w.digits
    → WritableAll (vote_with (turn_in w.shown) (in_hex w.digits)).fields (vote_values e)
vote_writable w e t h k = (tt, (turn_writable w.shown e.turn t, (tt, (tt, (tt, (h, (say_fits (says_commit e), (k, tt))))))))

-- a vote's line, and behind its update these fields
module _ (gs : List Field) where
  abbrev voted_then : Presence → Form → Kind
  voted_then p form = kind (ascii "vote") (proc ∷ turn p ∷ by ∷ store ∷ tx ∷ list ∷ say ∷ upd form ∷ gs)

  abbrev voted : Way → Kind
  voted w = voted_then (turn_in w.shown) (in_hex w.digits)

  pub vote_sound : OtherKeys (ascii "turn") gs → SoundAll gs → SoundAll (voted_then turn_presence update_form).fields
  unfolding apart clash_all clash
  vote_sound c h = (tt, ((tt, c), (tt, (tt, (tt, (tt, (refl, (omega arith, h))))))))

  -- a vote has one text in each way
  pub vote_one : (w : Way) → one_text_all gs ≡ true → one_text_all (voted w).fields ≡ true
  unfolding one_text_all
  vote_one w h = go w.shown
    where
      go : (shown : Bool) → one_text_all (voted_then (turn_in shown) (in_hex w.digits)).fields ≡ true
      go true = h
      go false = h

module _ (gs : List Field) (vs s : List ℕ) where
  abbrev between : List Field
  between = by ∷ store ∷ tx ∷ list ∷ say ∷ []

  known_update : (p : Presence) (digits : ℕ) → (digits ≡ update_digits) ⊎ (digits ≡ earlier_digits) → LineIs (voted_then gs p (in_hex digits)) vs s → LineIs (voted_then gs p update_form) vs s
  known_update p digits (inl e) h =
      in_first (ascii "upd") update_digits earlier_digits (ascii "vote") (proc ∷ turn p ∷ between) gs vs s
      (subst (λ (d : ℕ). LineIs (voted_then gs p (in_hex d)) vs s) e h)
  known_update p digits (inr e) h =
      in_second (ascii "upd") update_digits earlier_digits (ascii "vote") (proc ∷ turn p ∷ between) gs vs s
      (subst (λ (d : ℕ). LineIs (voted_then gs p (in_hex d)) vs s) e h)

  pub known_vote : (w : Way) → Known w → LineIs (voted gs w) vs s → LineIs (voted_then gs turn_presence update_form) vs s
  known_vote w k h =
      known_turn (ascii "vote") (proc ∷ []) (by ∷ store ∷ tx ∷ list ∷ say ∷ upd update_form ∷ gs) vs s w.shown
      (known_update (turn_in w.shown) w.digits k h)

  pub which_vote : LineIs (voted_then gs turn_presence update_form) vs s → (w : Way) × Known w × LineIs (voted gs w) vs s
  which_vote h =
      let t = which_turn (ascii "vote") (proc ∷ []) (by ∷ store ∷ tx ∷ list ∷ say ∷ upd update_form ∷ gs) vs s h in
      go t.0 (which_digits (ascii "upd") update_digits earlier_digits (ascii "vote") (proc ∷ turn (turn_in t.0) ∷ between) gs vs s t.1)
    where
      go : (shown : Bool) → LineIs (voted_then gs (turn_in shown) (in_hex update_digits)) vs s ⊎ LineIs (voted_then gs (turn_in shown) (in_hex earlier_digits)) vs s
          → (w : Way) × Known w × LineIs (voted gs w) vs s
      go shown (inl k) = (record { shown = shown; digits = update_digits }, inl refl, k)
      go shown (inr k) = (record { shown = shown; digits = earlier_digits }, inr refl, k)

pub vote_back : (e : Entry) → is_take e ≡ false → vote_of (vote_values e) ≡ e
vote_back e h = go e.request h
  where
    go : (r : Request) → in_is_take r ≡ false
        → vote_of (vote_values (record { process = e.process; turn = e.turn; store = e.store; request = r })) ≡ record { process = e.process; turn = e.turn; store = e.store; request = r }
    go Take h = absurd (true≢false h)
    go (Vote b x l Abort u) h = refl
    go (Vote b x l Commit u) h = refl

-- what a vote says, by the index of its word
pub said_back : (y : Say) → said_of (eqb (say_of (is_commit y)) 1) ≡ y
said_back Abort = refl
said_back Commit = refl

said_number : (v : ℕ) → v < 2 → v ≡ say_of (is_commit (said_of (eqb v 1)))
said_number ℕ.zero h = refl
said_number (suc ℕ.zero) h = refl
said_number (suc (suc v)) h = absurd (omega arith)

pub vote_values_lem : (vs : List ℕ) → at vs 6 < 2 → elements 8 0 vs ≡ vote_values (vote_of vs)
vote_values_lem vs h = ap (λ (v : ℕ). at vs 0 ∷ at vs 1 ∷ at vs 2 ∷ at vs 3 ∷ at vs 4 ∷ at vs 5 ∷ v ∷ at vs 7 ∷ []) (said_number (at vs 6) h)
