use Rattle.std.proofs.Common.{◌≡◌, ◌≤◌, ◌+◌, ◌++◌, ◌==◌, ℕ, Bool, true, false, not, nat_le}
use Rattle.std.proofs.Common.{List, [], ◌∷◌, length, Option, Some, None, refl, sym, ap, subst, ◌∙◌}
use Rattle.std.proofs.Common.{unwrap_or, arith, if◌then◌else◌, length-append}
use Rattle.std.proofs.lemmas.List.{flat_map_more}
use Rattle.apdu_codec.specs.Answer.{status_alone}
use Rattle.apdu_codec.specs.Command.{Apdu}
use Rattle.apdu_codec.specs.Ins.{class_fits}
use Rattle.apdu_codec.specs.declared.status.Sw.{Sw}
use Rattle.apdu_codec.specs.declared.status.TheConstants.Sw.{OK, WRONG_DATA, WRONG_P1_P2}
use Rattle.isdr_codec.specs.Request.{request_of}
use Rattle.plain_lists.specs.FirstOf.{first_of}
use Rattle.record_codec.specs.declared.durable.Heads.{Heads}
use Rattle.uicc_channels.specs.Needs.{refused_unless}
use Rattle.uicc_channels.specs.Shape.{has_body}
use Rattle.card_core.specs.DeskOutcome.{DeskOutcome, desk_answer, dropped_or, desk_refused_or}
use Rattle.card_core.specs.Laws.{BringsBlock, collection_of, joined}
use Rattle.card_core.specs.StoreData.{block_refusal, bytes_before, bytes_with, collected}
use Rattle.card_core.specs.StoreData.{store_form_refusal, is_block, is_next, requested, store_data}
use Rattle.card_core.specs.StoreData.{taken, with_block}
use Rattle.card_core.specs.declared.exchange.Collection.{Collection}
use Rattle.card_core.specs.declared.exchange.Exchange.{Exchange}
use Rattle.card_core.proofs.laws.blocks_make_one_request.Goals as goal

abbrev collection_with : ℕ → List ℕ → Collection
collection_with count bytes = record { blocks = count; bytes = bytes }

-- the blocks with one more
joined_more : (blocks : List (List ℕ)) (block : List ℕ)
    → joined blocks ++ block ≡ joined (blocks ++ block ∷ [])
joined_more blocks block = flat_map_more (λ (its : List ℕ). its) [] blocks block

before_next : (blocks : List (List ℕ)) (number : ℕ) → number ≡ length blocks
    → bytes_before (collection_of blocks) number ≡ joined blocks
before_next [] number e = rw e refl
before_next (block ∷ blocks) number e =
    let differs : (number == 0) ≡ false = grind (arith, e) in rw differs refl

-- where nothing refuses it, what is done is what it comes to
passes : (exchange : Exchange) (done : DeskOutcome) (form block : Option Sw) → form ≡ None
    → block ≡ None → desk_refused_or form exchange (dropped_or block exchange done) ≡ done
passes exchange done None None no_form no_block = refl
passes exchange done None (Some sw) no_form no_block = absurd (cc)
passes exchange done (Some sw) block no_form no_block = absurd (cc)

otherwise : {X : Type 0} → (last : Bool) (one other : X) → last ≡ false
    → (if last then one else other) ≡ other
otherwise last one other e = rw e refl

then_is : {X : Type 0} → (last : Bool) (one other : X) → last ≡ true
    → (if last then one else other) ≡ one
then_is last one other e = rw e refl

some_body : (body : List ℕ) → 1 ≤ length body → not (length body == 0) ≡ true
some_body body some =
    let differs : (length body == 0) ≡ false = grind (arith, some) in rw differs refl

-- the form of a STORE DATA
form_of : (c : Apdu) → class_fits c.ins c.class ≡ true → is_block c.p1 ≡ true
    → has_body c ≡ true → store_form_refusal c ≡ None
form_of c class kind body = rw (class, kind, body) refl

module _ (blocks : List (List ℕ)) (p1 : ℕ) (c : Apdu) (brings : BringsBlock blocks p1 c)
    (known : is_block p1 ≡ true) (unsent : List ℕ) (heads : Heads) (busy : List Bool) (port : ℕ)
  where
    abbrev before : Exchange
    before = record { collection = collection_of blocks; unsent = unsent }

    with_next : bytes_with (collection_of blocks) c ≡ joined (blocks ++ c.body ∷ [])
    with_next = ap (λ (bytes : List ℕ). bytes ++ c.body) (before_next blocks c.p2 brings.number)
        ∙ joined_more blocks c.body

    class : class_fits c.ins c.class ≡ true
    class = rw (brings.instruction, brings.class) refl

    kind : is_block c.p1 ≡ true
    kind = ap is_block brings.kind ∙ known

    form : store_form_refusal c ≡ None
    form = form_of c class kind (some_body c.body brings.body)

    next : is_next (collection_of blocks) c.p2 ≡ true
    next = grind (arith, brings.number)

    short : length (bytes_with (collection_of blocks) c) ≤ 4096
    short = rw (with_next, sym (joined_more blocks c.body)) brings.fits

    fits : nat_le (length (bytes_with (collection_of blocks) c)) 4096 ≡ true
    fits = grind (arith, short)

    block_of : (is_next fits : Bool) (one other : Sw) → is_next ≡ true → fits ≡ true
        → first_of (refused_unless is_next one ∷ refused_unless fits other ∷ []) ≡ None
    block_of is_next fits one other e f = rw (e, f) refl

    store_is_taken : store_data before heads busy port c ≡ taken before heads busy port c
    store_is_taken =
        passes before (taken before heads busy port c) (store_form_refusal c)
        (block_refusal (collection_of blocks) c) form
        (block_of (is_next (collection_of blocks) c.p2) _ WRONG_P1_P2 WRONG_DATA next fits)

    count : c.p2 + 1 ≡ length (blocks ++ c.body ∷ [])
    count = omega (arith, brings.number, length-append blocks (c.body ∷ []))

    with_block_is : with_block (collection_of blocks) c ≡ collection_of (blocks ++ c.body ∷ [])
    with_block_is =
        ap (λ (count : ℕ). collection_with count (bytes_with (collection_of blocks) c)) count
        ∙ ap (collection_with (length (blocks ++ c.body ∷ []))) with_next

    more_is : c.p1 ≡ 0x11 → store_data before heads busy port c
        ≡ desk_answer (status_alone OK)
        (record { collection = collection_of (blocks ++ c.body ∷ []); unsent = [] })
    more_is e =
        store_is_taken
        ∙ otherwise (c.p1 == 0x91) _ (collected before c) (ap (λ (p1 : ℕ). p1 == 0x91) e)
        ∙ ap (λ (collection : Collection). desk_answer (status_alone OK)
        (record { collection = collection; unsent = [] })) with_block_is

    last_is : c.p1 ≡ 0x91 → store_data before heads busy port c
        ≡ requested before heads busy port (unwrap_or c.le 0)
        (request_of (joined (blocks ++ c.body ∷ [])))
    last_is e =
        store_is_taken
        ∙ then_is (c.p1 == 0x91) _ _ (ap (λ (p1 : ℕ). p1 == 0x91) e)
        ∙ ap (λ (bytes : List ℕ). requested before heads busy port (unwrap_or c.le 0)
        (request_of bytes)) with_next

pub returns-clause-more : goal.returns-clause-more
returns-clause-more c exchange heads busy port command blocks are brings =
    subst (λ (collection : Collection).
    store_data (record { collection = collection; unsent = exchange.unsent }) heads busy port
    command ≡ desk_answer (status_alone OK)
    (record { collection = collection_of (blocks ++ command.body ∷ []); unsent = [] })) (sym are)
    (more_is blocks 0x11 command brings refl exchange.unsent heads busy port brings.kind)

pub returns-clause-last : goal.returns-clause-last
returns-clause-last c exchange heads busy port command blocks are brings =
    subst (λ (collection : Collection).
    store_data (record { collection = collection; unsent = exchange.unsent }) heads busy port
    command ≡ requested (record { collection = collection; unsent = exchange.unsent }) heads busy
    port (unwrap_or command.le 0) (request_of (joined (blocks ++ command.body ∷ [])))) (sym are)
    (last_is blocks 0x91 command brings refl exchange.unsent heads busy port brings.kind)
