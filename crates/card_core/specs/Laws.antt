-- What users of a desk may rely on.
use Rattle.std.specs.Prelude.{ℕ, ◌≡◌, ◌≤◌, List, [], ◌++◌, length, None}
use Rattle.std.specs.List.{flat_map}
use Rattle.apdu_codec.specs.Command.{Apdu}
use Rattle.apdu_codec.specs.declared.commands.Class.TheVariants.{Special}
use Rattle.card_core.specs.DeskOutcome.{DeskOutcome}
use Rattle.card_core.specs.declared.exchange.Collection.{Collection}
use Rattle.card_core.specs.declared.exchange.Exchange.{Exchange}

-- the blocks of a request joined
abbrev pub joined : List (List ℕ) → List ℕ
joined blocks = flat_map (λ block. block) blocks

-- these blocks have come, numbered from 00
abbrev pub collection_of : List (List ℕ) → Collection
collection_of blocks = record { blocks = length blocks; bytes = joined blocks }

-- the STORE DATA with this P1 that brings one block more of a request
pub record BringsBlock (blocks : List (List ℕ)) (p1 : ℕ) (c : Apdu) : Type 0 where
  pub instruction : c.ins ≡ 0xE2
  pub class : c.class ≡ Special
  pub kind : c.p1 ≡ p1
  pub number : c.p2 ≡ length blocks
  pub body : 1 ≤ length c.body
  pub fits : length (joined blocks ++ c.body) ≤ 4096

-- what a refused command leaves: the unsent reply, no record, and no port that moves
pub record IsDeskRefusal (before : Exchange) (outcome : DeskOutcome) : Type 0 where
  pub reply : outcome.exchange.unsent ≡ before.unsent
  pub entry : outcome.entry ≡ None
  pub moves : outcome.moves ≡ []

-- a request has at most 256 blocks and 4,096 bytes
pub record IsWithinLimits (exchange : Exchange) : Type 0 where
  pub blocks : exchange.collection.blocks ≤ 256
  pub bytes : length exchange.collection.bytes ≤ 4096
