use Rattle.std.specs.Prelude.{◌≡◌, ◌⊎◌, ℕ, ◌<◌, List, [], ◌∷◌, ◌++◌, length, Option, Some, None}
use Rattle.std.specs.Prelude.{unwrap_or, if◌then◌else◌, ◌==◌}
use Rattle.apdu_codec.specs.declared.commands.Class.{Class}
use Rattle.apdu_codec.specs.declared.commands.Command.{Command}
use Rattle.apdu_codec.specs.declared.status.Sw.{Sw}
use Rattle.apdu_codec.specs.declared.status.TheConstants.Sw.{WRONG_LENGTH}
use Rattle.apdu_codec.specs.Class.{HasClass, class_refusal}

-- the fields of a command APDU, without where its body lies
pub record Apdu : Type 0 where
  pub channel : ℕ
  pub class : Class
  pub ins : ℕ
  pub p1 : ℕ
  pub p2 : ℕ
  pub body : List ℕ
  pub le : Option ℕ

-- the fields of a command that was read
abbrev pub apdu_of : Command → Apdu
apdu_of c = record {
  channel = c.channel;
  class = c.class;
  ins = c.ins;
  p1 = c.p1;
  p2 = c.p2;
  body = c.body.now;
  le = c.le;
}

-- a body whose length one byte Lc can say; Lc isn't 00
abbrev pub IsBody : List ℕ → Type 0
IsBody body = (0 < length body) × (length body < 256)

-- how many bytes an Le byte asks for
abbrev pub expected : ℕ → ℕ
expected byte = if byte == 0 then 256 else byte

-- ISO/IEC 7816-4: the four short cases of what follows the header: nothing, Le, Lc and body, Lc,
-- body and Le
abbrev pub SpellsTail : List ℕ → List ℕ → Option ℕ → Type 0
SpellsTail tail body le =
    ((tail ≡ []) × (body ≡ []) × (le ≡ None))
    ⊎ (((byte : ℕ) × (byte < 256) × (tail ≡ byte ∷ []) × (body ≡ []) × (le ≡ Some (expected byte)))
    ⊎ ((IsBody body × (tail ≡ length body ∷ body) × (le ≡ None))
    ⊎ ((byte : ℕ) × (byte < 256) × IsBody body × (tail ≡ length body ∷ body ++ byte ∷ [])
    × (le ≡ Some (expected byte)))))

-- these bytes spell this command: a header of four bytes, and one of the four cases
abbrev pub Spells : List ℕ → Apdu → Type 0
Spells bytes c =
    (class_byte : ℕ) × (tail : List ℕ) × (bytes ≡ class_byte ∷ c.ins ∷ c.p1 ∷ c.p2 ∷ tail)
    × HasClass class_byte c.class c.channel × SpellsTail tail c.body c.le

-- the status word for bytes that spell no command: the length of the header, the class, the length
-- of the rest
abbrev pub refusal : List ℕ → Sw
refusal (class_byte ∷ _ ∷ _ ∷ _ ∷ _) = unwrap_or (class_refusal class_byte) WRONG_LENGTH
refusal _ = WRONG_LENGTH

-- some bytes spell this command
abbrev pub IsCommand : Command → Type 0
IsCommand c = (bytes : List ℕ) × Spells bytes (apdu_of c)
