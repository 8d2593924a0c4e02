-- The packets in a gap. A gap is a list of words, and nothing behind it counts.
-- Assumes nothing.
use Rattle.std.specs.Prelude.{ℕ, zero, suc, ◌+◌, ◌%◌, Bool, ◌&&◌, not, List, [], ◌∷◌, map, eqb, ltb, length, get_or, take, drop}
use Rattle.lists.specs.Tests.{pick, Refusal, when, lowest_of}
use Rattle.lists.specs.Lists.{part, same, each}
use Rattle.words.specs.Forms.{is_byte, is_data}
use Rattle.words.specs.Checksum.{checksum}
use Rattle.line.specs.Header.{flag_words}
use Rattle.line.specs.Check.{low}
use Rattle.packets.specs.declared.packet.Look.{Look}
use Rattle.packets.specs.declared.packet.Look.TheVariants.{Nothing, Whole, Bad}
use Rattle.packets.specs.Packet.{Packet}

-- a whole flag stands at the front
abbrev pub flag_at : List ℕ → Bool
flag_at g = same (take 3 g) flag_words

-- the count is the low eight bits of its word, whatever its form; where the gap ends before it, it is 0
abbrev pub count_at : List ℕ → ℕ
count_at g = low (get_or g 5 0)

-- 21 runs past the gap; 22 DID, second word or count not in byte form, or a user word or the checksum not in data form; 23 checksum
unfoldable pub faults_at : List ℕ → List Refusal
faults_at g =
    when 21 (ltb (length g) (count_at g + 7))
    ∷ when 22 (not (each is_byte (part 3 3 g) && each is_data (part 6 (count_at g + 1) g)))
    ∷ when 23 (not (eqb (get_or g (count_at g + 6) 0) (checksum (part 3 (count_at g + 3) g))))
    ∷ []

unfoldable pub fault_at : List ℕ → ℕ
fault_at g = lowest_of (faults_at g)

-- the value of a user word: its nine low bits
abbrev pub value : ℕ → ℕ
value w = w % 512

-- the packet at the front
abbrev pub packet_at : List ℕ → Packet
packet_at g = record { did = low (get_or g 3 0); second = low (get_or g 4 0); values = map value (part 6 (count_at g) g) }

-- what stands at the front: no whole flag, a bad packet, or a packet
unfoldable pub look_at : List ℕ → Look
look_at g = pick (flag_at g) (pick (eqb (fault_at g) 0) (Whole (low (get_or g 3 0)) (low (get_or g 4 0)) (count_at g)) (Bad (fault_at g))) Nothing

-- the packets from the gap's first word on, and the number of the bad packet that ended the list, or 0
pub record Found : Type 0 where
  pub packets : List Packet
  pub stop : ℕ

abbrev pub ends : ℕ → Found
ends stop = record { packets = []; stop = stop }

abbrev pub before : Packet → Found → Found
before p x = record { packets = p ∷ x.packets; stop = x.stop }

-- The list ends where no whole flag stands next, or at a bad packet with its number; else the packet is listed, and what lies behind it. As many
-- steps as the gap has words are enough: a packet has seven or more.
unfoldable pub list_by : ℕ → List ℕ → Found
list_by zero g = ends 0
list_by (suc k) g = pick (flag_at g) (pick (eqb (fault_at g) 0) (before (packet_at g) (list_by k (drop (count_at g + 7) g))) (ends (fault_at g))) (ends 0)

unfoldable pub list_in : List ℕ → Found
unfolding list_by
list_in g = list_by (length g) g
