-- What `list` and `new` come to.
use Rattle.std.proofs.Common.{◌≡◌, ℕ, List, Option, Some, None, IfSome, Result, Err, IfErr, refl}
use Rattle.std.proofs.Common.{sym, subst, true, false, rules, arith}
use Rattle.std.specs.Prelude.{IsSome, IsTrue}
use Rattle.flash_pages.specs.Flash.{FlashState, IsFlash, MayLeaveOnly, Throughout, LeavesOnly}
use Rattle.flash_pages.specs.Flash.{card_blocks}
use Rattle.flash_pages.specs.Shelf.{ShelfPlace}
use Rattle.port_io.specs.Faults.{Rose}
use Rattle.record_codec.specs.declared.durable.Durable.{Durable}
use Rattle.record_codec.specs.declared.record.Record.{Record}
use Rattle.card_core.specs.Listing.{listing_text}
use Rattle.card_journal.specs.CardStoreState.{HoldsOneOf}
use Rattle.card_journal.specs.Image.{HoldsCard}
use Rattle.card_journal.specs.Made.{HoldsNoneOr, IsBlank, LeavesUsed}
use Rattle.card_journal.specs.MakeFault.{IsRefused}
use Rattle.card_journal.specs.OpenFault.{HasRisen}
use Rattle.card_journal.specs.Read.{OnlyReads}
use Rattle.card_journal.specs.StoreState.{HasNextByte, IsNotOpenedWorn}
use Rattle.card_journal.specs.Stored.{EndsTorn}
use Rattle.card_journal.specs.declared.make_fault.MakeFault.{MakeFault}
use Rattle.card_journal.specs.declared.make_fault.MakeFault.TheVariants as make_fault
use Rattle.card_journal.specs.declared.open_fault.OpenFault.{OpenFault}
use Rattle.card_journal.specs.declared.open_fault.OpenFault.TheVariants as open_fault
use Rattle.card_journal.proofs.BankLemmas.{reads_none}
use Rattle.card_journal.proofs.MakeLemmas.{read_images, used_blank, used_read}
use Rattle.card_journal.proofs.StoreLemmas.{only_throughout}
use Rattle.card_run.specs.Images.{HasImageCause, IsListed, MakingEnds, IsPrinted, KeepsCards}
use Rattle.card_run.specs.Images.{LeavesNoneOr, OfFlashes, Output, PrintsMade, making_status}
use Rattle.card_run.specs.Images.{opening_status}
use Rattle.card_run.specs.declared.status.Status.{Status}
use Rattle.card_run.specs.declared.status.Status.TheVariants.{Done, Usage, Script, ReadFault}
use Rattle.card_run.specs.declared.status.Status.TheVariants.{WriteFault, FlashFault, NotACard}
use Rattle.card_run.specs.declared.status.Status.TheVariants.{NoMemory, NotBlank, Worn}

-- the status that a `?` makes
pub printed_by : {T : Type 0} (r : Result T Status) (text : List ℕ) (before after : Output) (status : Status) → IsPrinted text before after status
    → (y : Status) → r ≡ Err y → y ≡ status → IfErr r (IsPrinted text before after)
printed_by {T} r text before after status printed y is same =
    subst (λ (result : Result T Status). IfErr result (IsPrinted text before after)) (sym is) (subst (IsPrinted text before after) (sym same) printed)

-- a listing that was begun is that of a card that is there
pub listed_by : (old : FlashState) (held : Durable) (before after : Output) (status : Status) → IfSome old.bytes (λ image. HoldsCard image held)
    → (IfSome old.bytes EndsTorn → HasNextByte old) → IsPrinted (listing_text held) before after status → IsListed old before after status
listed_by old held before after Done holds next printed = record { held = held; holds = holds; switched = next; text = printed }
listed_by old held before after WriteFault holds next printed = record { held = held; holds = holds; switched = next; text = printed }
listed_by old held before after NoMemory holds next printed = printed
listed_by old held before after Usage holds next printed = absurd printed
listed_by old held before after (Script line kind) holds next printed = absurd printed
listed_by old held before after ReadFault holds next printed = absurd printed
listed_by old held before after (FlashFault from to) holds next printed = absurd printed
listed_by old held before after NotACard holds next printed = absurd printed
listed_by old held before after (NotBlank place) holds next printed = absurd printed
listed_by old held before after Worn holds next printed = absurd printed

-- no card was opened
pub listed_refused : (old new : FlashState) (out : Output) (fault : OpenFault)
    → (fault ≡ open_fault.NotACard → IfSome old.bytes (λ image. (held : Durable) → HoldsCard image held → ⊥))
    → (fault ≡ open_fault.Worn → IsNotOpenedWorn old new) → IsListed old out out (opening_status fault)
listed_refused old new out (open_fault.Flash before after) none worn = refl
listed_refused old new out open_fault.NotACard none worn = (none refl, refl)
listed_refused old new out open_fault.Worn none worn =
    let its = worn refl in (record { card = its.card; needed = its.needed; worn = its.worn }, refl)
listed_refused old new out open_fault.NoMemory none worn = refl

pub opened_cause : (before after out : ℕ) (fault : OpenFault) → HasRisen before after fault → HasImageCause before after out out (opening_status fault)
opened_cause before after out (open_fault.Flash from to) risen = risen
opened_cause before after out open_fault.NotACard risen = tt
opened_cause before after out open_fault.Worn risen = tt
opened_cause before after out open_fault.NoMemory risen = tt

-- a card that was made is listed
pub made_by : (card : Durable) (old new : FlashState) (before after : Output) (status : Status) → IfSome old.bytes IsBlank
    → MayLeaveOnly new (λ content. HoldsCard content card) → IsPrinted (listing_text card) before after status → MakingEnds card old new before after status
made_by card old new before after Done is_blank keeps printed = record { blank = is_blank; keeps = keeps; text = printed }
made_by card old new before after WriteFault is_blank keeps printed = record { blank = is_blank; keeps = keeps; text = printed }
made_by card old new before after NoMemory is_blank keeps printed = printed
made_by card old new before after Usage is_blank keeps printed = absurd printed
made_by card old new before after (Script line kind) is_blank keeps printed = absurd printed
made_by card old new before after ReadFault is_blank keeps printed = absurd printed
made_by card old new before after (FlashFault from to) is_blank keeps printed = absurd printed
made_by card old new before after NotACard is_blank keeps printed = absurd printed
made_by card old new before after (NotBlank place) is_blank keeps printed = absurd printed
made_by card old new before after Worn is_blank keeps printed = absurd printed

-- no card was made
pub made_refused : (card : Durable) (old new : FlashState) (out : Output) (fault : MakeFault) → IsRefused fault old new
    → MakingEnds card old new out out (making_status fault)
made_refused card old new out (make_fault.Flash before after) refused = refl
made_refused card old new out (make_fault.NotBlank place) refused = (refused.0, refused.1, refl)
made_refused card old new out make_fault.NoMemory refused = refl

pub made_cause : (old new : FlashState) (out : ℕ) (fault : MakeFault) → IsRefused fault old new
    → HasImageCause old.faults new.faults out out (making_status fault)
made_cause old new out (make_fault.Flash before after) refused = refused
made_cause old new out (make_fault.NotBlank place) refused = tt
made_cause old new out make_fault.NoMemory refused = tt

-- what a store without an unrepaired record keeps
pub keeps_card : (flash : FlashState) (held : Durable) (unrepaired : Option Record) → unrepaired ≡ None → MayLeaveOnly flash (HoldsOneOf HoldsCard held unrepaired)
    → MayLeaveOnly flash (λ content. HoldsCard content held)
keeps_card flash held None repaired keeps = keeps
keeps_card flash held (Some entry) repaired keeps = absurd (cc)

-- a blank flash on which a card was made
pub leaves_made : (card : Durable) (old new : FlashState) → IfSome old.bytes IsBlank → LeavesOnly old new (HoldsNoneOr card) → LeavesNoneOr card old new
leaves_made card old new is_blank leaves = record { blank = λ _. leaves; used = used_blank old new is_blank }

of_flashes : {F : Type 0} (state : F → FlashState) (one other : Option F) (holds : FlashState → FlashState → Type 0)
    → ((flash later : FlashState) → holds flash later) → IfSome one (λ flash. IfSome other (λ after. holds (state flash) (state after)))
of_flashes state None other holds each = tt
of_flashes state (Some flash) None holds each = tt
of_flashes state (Some flash) (Some after) holds each = each (state flash) (state after)

-- this holds of any flashes
pub of_any : {F : Type 0} (state : F → FlashState) (old new : ShelfPlace F) (holds : FlashState → FlashState → Type 0)
    → ((flash later : FlashState) → holds flash later) → OfFlashes state old new holds
of_any state old new holds each = of_flashes state old.there new.there holds each

of_same : {F : Type 0} (state : F → FlashState) (one : Option F) (holds : FlashState → FlashState → Type 0)
    → ((flash : F) → holds (state flash) (state flash)) → IfSome one (λ flash. IfSome one (λ after. holds (state flash) (state after)))
of_same state None holds each = tt
of_same state (Some flash) holds each = each flash

-- the flash that lies there is the one that lay there
pub of_left : {F : Type 0} (state : F → FlashState) (old new : ShelfPlace F) (holds : FlashState → FlashState → Type 0) → new.there ≡ old.there
    → ((flash : F) → holds (state flash) (state flash)) → OfFlashes state old new holds
of_left {F} state old new holds same each =
    subst (λ (there : Option F). IfSome old.there (λ flash. IfSome there (λ after. holds (state flash) (state after)))) (sym same)
    (of_same state old.there holds each)

-- what no call touched is left as it was
pub kept_alone : (flash : FlashState) → IsFlash card_blocks flash → KeepsCards flash flash
kept_alone flash lawful held each =
    only_throughout flash flash (λ content. HoldsCard content held) lawful (reads_none flash lawful) each

pub none_alone : (card : Durable) (flash : FlashState) → IsFlash card_blocks flash → LeavesNoneOr card flash flash
none_alone card flash lawful = record {
  blank = read_images flash flash card lawful (reads_none flash lawful);
  used = used_read flash flash (reads_none flash lawful);
}
