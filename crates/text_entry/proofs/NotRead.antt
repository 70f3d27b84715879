-- What a reading is by the test for a number beyond a byte.
use mathlib.Core.Bool.{false, false≢true, true, true≢false}
use mathlib.Core.Path.{◌≡◌, refl}
use Rattle.std.specs.Prelude.{Result, Ok, Err}
use Rattle.text_entry.specs.declared.Unread.{Unread}
use Rattle.text_entry.specs.declared.Unread.TheVariants.{Outside, Unreadable}
use Rattle.text_entry.specs.Entry.{is_outside}

pub outside_is : {A : Type 0} (r : Result A Unread) → is_outside r ≡ true → r ≡ Err Outside
outside_is (Ok a) h = absurd (false≢true h)
outside_is (Err Outside) h = refl
outside_is (Err Unreadable) h = absurd (false≢true h)

-- of one that has no value
pub other_is : {A : Type 0} (r : Result A Unread) → is_outside r ≡ false → ((a : A) → r ≡ Ok a → ⊥) → r ≡ Err Unreadable
other_is (Ok a) h none = absurd (none a refl)
other_is (Err Outside) h none = absurd (true≢false h)
other_is (Err Unreadable) h none = refl
