-- The values of a take's line and the take that they make.
use Prim.Native.Nat.{ℕ}
use mathlib.Core.Bool.{Bool, true, false}
use mathlib.Core.List.{List, [], ◌∷◌}
use mathlib.Core.Option.{some}
use mathlib.Core.Path.{◌≡◌, sym, ◌∙◌}
use Rattle.log_entry.specs.declared.Entry.{Entry}
use Rattle.log_entry.specs.Entry.{take_entry}
use Rattle.text_ascii.specs.Bytes.{ascii}
use Rattle.text_ascii.proofs.Words.{clash}
use Rattle.std.proofs.Common.{Err}
use Rattle.text_entry.specs.declared.Unread.TheVariants.{Outside}
use Rattle.text_entry.specs.Entry.{HasTurnIn, reading_of, take_of, take_values, turn_in}
use Rattle.text_entry.specs.Fields.{Field, Kind, Presence, kind}
use Rattle.text_entry.specs.Kinds.{proc, store, take_kind, take_with, turn, turn_presence}
use Rattle.text_entry.specs.Table.{any_beyond, at}
use Rattle.text_entry.proofs.Counts.{at_counts}
use Rattle.text_entry.proofs.DecimalLaws.{capped_all, capped_same}
use Rattle.text_entry.proofs.Fronts.{counts}
use Rattle.text_entry.proofs.LineTexts.{LineIs, WritableAll, one_text_all}
use Rattle.text_entry.proofs.TextReads.{OtherKeys, SoundAll, clash_all}
use Rattle.text_entry.proofs.Turns.{known_turn, turn_writable, which_turn}
use Rattle.text_entry.proofs.Votes.{outside_by}

take_outside : (p t s : ℕ) → any_beyond (p ∷ t ∷ s ∷ []) ≡ true → reading_of (some (take_entry p t s)) ≡ Err Outside
take_outside p t s h = outside_by (take_entry p t s) h

-- only the counts of a take's decimals matter
pub take_counts : (vs : List ℕ) → reading_of (some (take_of vs)) ≡ reading_of (some (take_of (counts take_kind.fields vs)))
take_counts vs =
    let k = at_counts take_kind.fields vs in
    let ns = at vs 0 ∷ at vs 1 ∷ at vs 2 ∷ [] in
    let ms = capped_all ns in
    capped_same (λ (ks : List ℕ). reading_of (some (take_entry (at ks 0) (at ks 1) (at ks 2)))) (Err Outside) ns
    (take_outside (at ns 0) (at ns 1) (at ns 2)) (take_outside (at ms 0) (at ms 1) (at ms 2))
    ∙ (λ i. reading_of (some (take_entry (sym (k 0) i) (sym (k 1) i) (sym (k 2) i))))

pub take_writable : (shown : Bool) (e : Entry) → HasTurnIn shown e.turn → WritableAll (take_with (turn_in shown)).fields (take_values e)
take_writable shown e h = (tt, (turn_writable shown e.turn h, (tt, tt)))

-- a take's line, and behind its store these fields
module _ (gs : List Field) where
  abbrev taken_then : Presence → Kind
  taken_then p = kind (ascii "take") (proc ∷ turn p ∷ store ∷ gs)

  pub take_sound : OtherKeys (ascii "turn") gs → SoundAll gs → SoundAll (taken_then turn_presence).fields
  unfolding clash_all clash
  take_sound c h = (tt, ((tt, c), (tt, h)))

  -- a take has one text in each way
  pub take_one : (shown : Bool) → one_text_all gs ≡ true → one_text_all (taken_then (turn_in shown)).fields ≡ true
  unfolding one_text_all
  take_one true h = h
  take_one false h = h

  pub known_take : (shown : Bool) (vs s : List ℕ) → LineIs (taken_then (turn_in shown)) vs s → LineIs (taken_then turn_presence) vs s
  known_take shown vs s = known_turn (ascii "take") (proc ∷ []) (store ∷ gs) vs s shown

  pub which_take : (vs s : List ℕ) → LineIs (taken_then turn_presence) vs s → (shown : Bool) × LineIs (taken_then (turn_in shown)) vs s
  which_take = which_turn (ascii "take") (proc ∷ []) (store ∷ gs)
