-- A line checked, and the packets of its gap listed, from C. 1: also an odd buffer, or one of the wrong length; it leaves every buffer. Any other answer is that of the library's
-- call, which is written.
-- Assumes nothing.
use Rattle.std.specs.Prelude.{ℕ, ◌&&◌, ◌||◌, not, List, ◌++◌, eqb, length}
use Rattle.lists.specs.Tests.{pick}
use Rattle.octets.specs.Bytes.{words_of, bytes_of, is_even}
use Rattle.line.specs.declared.check.Checked.{Checked}
use Rattle.line.specs.Check.{checked_of}
use Rattle.packets.specs.declared.list.Listed.{Listed}
use Rattle.packets.specs.Listing.{listing}
use Rattle.fields.specs.Fields.{bytes_for, settings_bytes}

-- the header: the line number, and the settings as in a state; zeros where there is a fault
abbrev pub header_length : ℕ
header_length = 43

unfoldable pub header_bytes : Checked → List ℕ
header_bytes c = bytes_for 2 c.number ++ settings_bytes c.settings

pub record Looked : Type 0 where
  pub answer : ℕ
  pub header : List ℕ

abbrev pub looked : ℕ → List ℕ → Looked
looked n h = record { answer = n; header = h }

unfoldable pub checks : ℕ → ℕ → List ℕ → List ℕ → Looked
checks system mode line header =
    let c = checked_of system mode (words_of line) in
    pick (not (is_even line && eqb (length header) header_length) || eqb c.fault 1) (looked 1 header) (looked c.fault (header_bytes c))

-- what is said of a list: how many packets, how many words it has, how many words of the gap they take, and the number of the bad packet that ended it, four bytes each
abbrev pub listed_length : ℕ
listed_length = 16

unfoldable pub listed_bytes : Listed → List ℕ
listed_bytes x = bytes_for 4 x.packets ++ (bytes_for 4 x.words ++ (bytes_for 4 x.gap ++ bytes_for 4 x.stop))

pub record Listing : Type 0 where
  pub answer : ℕ
  pub out : List ℕ
  pub listed : List ℕ

abbrev pub listings : ℕ → List ℕ → List ℕ → Listing
listings n o l = record { answer = n; out = o; listed = l }

unfoldable pub lists : ℕ → ℕ → List ℕ → List ℕ → List ℕ → Listing
lists system mode line out listed =
    let x = listing system mode (words_of line) (words_of out) in
    pick (not (is_even line && (is_even out && eqb (length listed) listed_length)) || eqb x.answer.fault 1)
    (listings 1 out listed)
    (listings x.answer.fault (bytes_of x.out) (listed_bytes x.answer))
