-- What stands where a TLV is due.
use Rattle.std.specs.Prelude.{◌⊎◌, ℕ, ◌+◌, ◌-◌, ◌^◌, ◌<◌, ◌≤◌, List, length, take, drop, Option}
use Rattle.std.specs.Prelude.{Some, None, ⊤}
use Rattle.std.specs.Option.{option_map}
use Rattle.ber_tlv.specs.Head.{BeginsWithHead, RefusesHead}
use Rattle.ber_tlv.specs.declared.fault.TlvFault.TheVariants.{Short, BadTag, BadLength}
use Rattle.package_reader.specs.ReaderState.{innermost}
use Rattle.package_reader.specs.declared.next_head.NextHead.{NextHead}
use Rattle.package_reader.specs.declared.next_head.NextHead.TheVariants.{Whole, Wanting, Broken}

-- how many bytes are left of the innermost open TLV, where one is open
abbrev pub left_in : List ℕ → ℕ → Option ℕ
left_in ends place = option_map (λ end. end - place) (innermost ends)

-- the bytes up to the end of the TLV around them
abbrev pub up_to_end : Option ℕ → List ℕ → List ℕ
up_to_end None bytes = bytes
up_to_end (Some left) bytes = take left bytes

-- so many bytes don't pass the end of the TLV around them
abbrev pub FitsIn : Option ℕ → ℕ → Type 0
FitsIn None count = ⊤
FitsIn (Some left) count = count ≤ left

-- the bytes don't reach the end of the TLV around them
abbrev pub EndBefore : Option ℕ → List ℕ → Type 0
EndBefore None bytes = ⊤
EndBefore (Some left) bytes = length bytes < left

-- a head stands there, of a TLV that passes the end of the one around it
pub record PassesEnd (left : Option ℕ) (unread : List ℕ) : Type 0 where
  pub tag : ℕ
  pub n : ℕ
  pub rest : List ℕ
  pub begins : BeginsWithHead (up_to_end left unread) tag n rest
  pub passes : ¬ FitsIn left (length begins.head + n)

-- however many bytes come, no TLV stands there: its tag or its length is bad, it passes the end of
-- the TLV around it, or that one ends inside its head
abbrev pub SpellsNone : Option ℕ → List ℕ → Type 0
SpellsNone left unread =
    RefusesHead (up_to_end left unread) BadTag
    ⊎ (RefusesHead (up_to_end left unread) BadLength
    ⊎ (PassesEnd left unread
    ⊎ (RefusesHead (up_to_end left unread) Short × (¬ EndBefore left unread))))

-- the bytes so far may be those of a head
abbrev pub MayBecomeHead : Option ℕ → List ℕ → Type 0
MayBecomeHead left unread = RefusesHead (up_to_end left unread) Short × EndBefore left unread

abbrev pub FindsHead : List ℕ → Option ℕ → NextHead → Type 0
FindsHead unread left (Whole head) =
    (head.size ≤ length unread) × (2 ≤ head.size) × (head.length < 2 ^ 24)
    × FitsIn left (head.size + head.length)
    × BeginsWithHead unread head.tag head.length (drop head.size unread)
FindsHead unread left Wanting = MayBecomeHead left unread
FindsHead unread left Broken = SpellsNone left unread
