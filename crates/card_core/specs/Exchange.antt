-- What is under way on a channel where the ISD-R is selected.
use Rattle.std.specs.Prelude.{[]}
use Rattle.card_core.specs.declared.exchange.Collection.{Collection}
use Rattle.card_core.specs.declared.exchange.Exchange.{Exchange}

-- no block has come
abbrev pub no_collection : Collection
no_collection = record { blocks = 0; bytes = [] }

-- nothing is under way
abbrev pub idle : Exchange
idle = record { collection = no_collection; unsent = [] }

-- what has come of a request is dropped
abbrev pub uncollected : Exchange → Exchange
uncollected exchange = record exchange { collection = no_collection }
