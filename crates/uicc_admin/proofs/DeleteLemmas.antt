-- DELETE FILE: what is named, and where the channels stand when it is gone.
use Rattle.std.proofs.Common.{◌≡◌, ◌≢◌, ◌⊎◌, ℕ, zero, suc, ◌-◌, ◌<◌, Bool, true, false, cond, not}
use Rattle.std.proofs.Common.{◌&&◌, ◌||◌, List, [], ◌∷◌, ◌++◌, length, drop, refl, sym, ◌∙◌, ap}
use Rattle.std.proofs.Common.{subst, inl, inr, ⊎_elim, Option, Some, None, IfSome, IsSomeAnd}
use Rattle.std.proofs.Common.{IsTrue, arith, length-set}
use Rattle.std.proofs.lemmas.Bool.{cases_eq, true≢false}
use Rattle.std.proofs.lemmas.Bool.Decides.{Decides-eqb}
use Rattle.std.proofs.lemmas.List.{get_or_past, length-append, length-take}
use Rattle.std.specs.List.{filter}
use Rattle.std.specs.Option.{option_and_then, option_or, unwrap_or}
use Rattle.std.specs.Prelude.{◌==◌}
use Rattle.fcp_codec.specs.Values.{id_of}
use Rattle.file_rows.proofs.ChangeLemmas.{others}
use Rattle.file_rows.proofs.EditLemmas.{some_is}
use Rattle.file_rows.proofs.PathLemmas.{below_is, is_false, not_zero}
use Rattle.file_rows.specs.Change.{changed}
use Rattle.file_rows.specs.Content.{IsFileSystem, file_at}
use Rattle.file_rows.specs.FileHead.{HasForm, HasRecord, IsApplication, IsFile, holds_files}
use Rattle.file_rows.specs.Find.{child}
use Rattle.file_rows.specs.Path.{master, own_id, parent_of, same_path, stands_below}
use Rattle.file_rows.specs.declared.change.Change.TheVariants.{FileGone}
use Rattle.file_rows.specs.declared.content.Content.{Content}
use Rattle.file_rows.specs.declared.head.FileHead.{FileHead}
use Rattle.file_rows.specs.declared.head.Kind.{Kind}
use Rattle.file_rows.specs.declared.head.Kind.TheVariants.{Master, Directory, Application}
use Rattle.file_rows.specs.declared.head.Kind.TheVariants.{Transparent, Linear, Cyclic}
use Rattle.file_rows.specs.declared.row.FileRow.{FileRow}
use Rattle.uicc_channels.proofs.AmongLemmas.{IsAmong, among_at, found_head, path_found}
use Rattle.uicc_channels.proofs.CarryLemmas.{stands_open}
use Rattle.uicc_channels.proofs.DirectoryLemmas.{directory_of_file}
use Rattle.uicc_channels.proofs.SessionLemmas.{channel_at-with_channel}
use Rattle.uicc_channels.proofs.SessionLemmas.{channel_at-with_channel_same}
use Rattle.uicc_channels.specs.Chan.{IsDirectoryIn, StandsAmong}
use Rattle.uicc_channels.specs.Session.{IsOpen, Suits, channel_at, open_channel}
use Rattle.uicc_channels.specs.declared.chan.Chan.{Chan}
use Rattle.uicc_channels.specs.declared.session.Session.{Session}
use Rattle.uicc_admin.proofs.NamedLemmas.{and_then_found, child_found, only_found}
use Rattle.uicc_admin.proofs.SuitsLemmas.{open_within}
use Rattle.uicc_admin.specs.Delete.{directory_itself, directory_left, file_to_delete}
use Rattle.uicc_admin.specs.Delete.{is_named_below, is_used_elsewhere, leaving, channel_left}
use Rattle.uicc_admin.specs.Delete.{may_be_deleted, named_to_delete, stands_there}

either_found : (one other : Option FileRow) (row : FileRow) → option_or one other ≡ Some row → (one ≡ Some row) ⊎ (other ≡ Some row)
either_found None other row e = inr e
either_found (Some x) other row e = inl e

cond_found : (b : Bool) (o : Option FileRow) (row : FileRow) → cond b o None ≡ Some row → o ≡ Some row
cond_found true o row e = e
cond_found false o row e = absurd (cc)

-- the file that is deleted is one of the card, and may be deleted
pub record IsDeletable (rows : List FileRow) (row : FileRow) : Type 0 where
  pub among : IsAmong rows row
  pub kind : may_be_deleted row.head.kind ≡ true

pub named_deletable : (rows : List FileRow) (chan : Chan) (body : List ℕ) (row : FileRow) → named_to_delete rows chan body ≡ Some row → IsDeletable rows row
named_deletable rows chan body row e =
    let by_id = and_then_found (file_to_delete rows chan.dir) (id_of body) row e in
    let id : ℕ = by_id.0 in
    let passes = only_found (λ row. may_be_deleted row.head.kind) (option_or (child rows chan.dir id) (directory_itself rows chan.dir id)) row by_id.1 in
    let among : IsAmong rows row =
    ⊎_elim (λ inside. among_at (chan.dir ++ id ∷ []) rows row (child_found rows chan.dir id row inside).0)
    (λ itself. among_at chan.dir rows row (cond_found (own_id chan.dir == id) (file_at chan.dir rows) row itself))
    (either_found (child rows chan.dir id) (directory_itself rows chan.dir id) row passes.0) in
    record { among = among; kind = passes.1 }

or_false : (one other : Bool) → (one || other) ≡ false → (one ≡ false) × (other ≡ false)
or_false true other e = absurd (true≢false e)
or_false false other e = (refl, e)

other_number : (b test : Bool) → b ≡ false → (not b && test) ≡ false → test ≡ false
other_number true test same e = absurd (true≢false same)
other_number false test same e = e

-- whether the channel of that number is another one that stands there
abbrev other_there : Session → ℕ → List ℕ → ℕ → Bool
other_there session channel top number = not (number == channel) && stands_there top (channel_at session number)

not_among : (session : Session) (channel : ℕ) (top : List ℕ) → is_used_elsewhere session channel top ≡ false → length session.channels ≡ 4 → (number : ℕ)
    → (number == channel) ≡ false → stands_there top (channel_at session number) ≡ false
not_among session channel top unused few zero other =
    other_number (0 == channel) (stands_there top (channel_at session 0)) other (or_false (other_there session channel top 0) _ unused).0
not_among session channel top unused few (suc zero) other =
    let one = or_false (other_there session channel top 0) _ unused in
    other_number (1 == channel) (stands_there top (channel_at session 1)) other (or_false (other_there session channel top 1) _ one.1).0
not_among session channel top unused few (suc (suc zero)) other =
    let one = or_false (other_there session channel top 0) _ unused in
    let two = or_false (other_there session channel top 1) _ one.1 in
    other_number (2 == channel) (stands_there top (channel_at session 2)) other (or_false (other_there session channel top 2) _ two.1).0
not_among session channel top unused few (suc (suc (suc zero))) other =
    let one = or_false (other_there session channel top 0) _ unused in
    let two = or_false (other_there session channel top 1) _ one.1 in
    let three = or_false (other_there session channel top 2) _ two.1 in
    other_number (3 == channel) (stands_there top (channel_at session 3)) other (or_false (other_there session channel top 3) _ three.1).0
not_among session channel top unused few (suc (suc (suc (suc more)))) other =
    let closed : channel_at session (suc (suc (suc (suc more)))) ≡ None = get_or_past session.channels (suc (suc (suc (suc more)))) None (omega (arith, few)) in
    rw closed refl

-- no other channel stands at a file that isn't used elsewhere, or below it
pub no_other_there : (session : Session) (channel : ℕ) (top : List ℕ) → is_used_elsewhere session channel top ≡ false → length session.channels ≡ 4 → (number : ℕ) → number ≢ channel
    → stands_there top (channel_at session number) ≡ false
no_other_there session channel top unused few number apart =
    not_among session channel top unused few number (is_false (number == channel) (λ e. apart ((Decides-eqb number channel).0 e)))

module _ (content : Content) (top : List ℕ) where
  abbrev pub left_rows : List FileRow
  left_rows = (changed content (FileGone top)).rows

  -- a file that isn't below the top stays
  stays : (path : List ℕ) → stands_below top path ≡ false → file_at path left_rows ≡ file_at path content.rows
  stays path outside = others content (FileGone top) path (λ inside. true≢false (sym inside ∙ outside))

  said_left : (P : FileRow → Type 0) (path : List ℕ) → stands_below top path ≡ false → IsSomeAnd (file_at path content.rows) P → IsSomeAnd (file_at path left_rows) P
  said_left P path outside said = rw (stays path outside) said

  dir_left : (dir : List ℕ) → stands_below top dir ≡ false → IsDirectoryIn content.rows dir → IsDirectoryIn left_rows dir
  dir_left dir outside is =
      ⊎_elim
      (λ empty. inl (ap (λ (rows : List FileRow). filter (λ row. not (stands_below top row.head.path)) rows) empty.0, empty.1))
      (λ there. inr (said_left (λ row. IsTrue (holds_files row.head.kind)) dir outside there))
      is

  named_left : (P : FileRow → Type 0) (named : Option (List ℕ)) → is_named_below top named ≡ false → IfSome named (λ path. IsSomeAnd (file_at path content.rows) P)
      → IfSome named (λ path. IsSomeAnd (file_at path left_rows) P)
  named_left P None outside said = tt
  named_left P (Some path) outside said = said_left P path outside said

  current_left : (P : FileRow → Type 0) (named : Option (List ℕ)) → is_named_below top named ≡ false → IsSomeAnd (option_and_then (λ path. file_at path content.rows) named) P
      → IsSomeAnd (option_and_then (λ path. file_at path left_rows) named) P
  current_left P None outside said = said
  current_left P (Some path) outside said = said_left P path outside said

  -- a channel that stands elsewhere goes on to stand among the files
  elsewhere_stands : (chan : Chan) → stands_there top (Some chan) ≡ false → StandsAmong content.rows chan → StandsAmong left_rows chan
  elsewhere_stands chan outside stands =
      let dir = or_false (stands_below top chan.dir) _ outside in
      let others = or_false (is_named_below top chan.file) (is_named_below top chan.app) dir.1 in
      record {
        app = named_left (λ row. row.head.kind ≡ Application) chan.app others.1 stands.app;
        dir = dir_left chan.dir dir.0 stands.dir;
        file = named_left (λ row. holds_files row.head.kind ≡ false) chan.file others.0 stands.file;
        pointer = ⊎_elim (λ none. inl none) (λ there. inr (current_left (λ row. HasRecord row.head chan.pointer) chan.file others.0 there)) stands.pointer;
      }

  place_stands : (place : Option Chan) → stands_there top place ≡ false → IfSome place (StandsAmong content.rows) → IfSome place (StandsAmong left_rows)
  place_stands None outside stands = tt
  place_stands (Some chan) outside stands = elsewhere_stands chan outside stands

deletable_not_master : (kind : Kind) → may_be_deleted kind ≡ true → kind ≢ Master
deletable_not_master kind may is = true≢false (sym (subst (λ (kind : Kind). may_be_deleted kind ≡ true) is may))

deletable_no_application : (kind : Kind) → may_be_deleted kind ≡ true → kind ≢ Application
deletable_no_application kind may is = true≢false (sym (subst (λ (kind : Kind). may_be_deleted kind ≡ true) is may))

-- a file that isn't the MF has a path
path_of_form : (kind : Kind) (head : FileHead) → HasForm kind head → kind ≢ Master → head.path ≢ master
path_of_form Master head form other = absurd (other refl)
path_of_form Directory head form other = form.path
path_of_form Application head form other = λ e. let none : form.path.0 ∷ [] ≡ [] = sym form.path.1 ∙ e in absurd (cc)
path_of_form Transparent head form other = form.path
path_of_form Linear head form other = form.path
path_of_form Cyclic head form other = form.path

-- a prefix of one identifier that isn't empty is that identifier
one_long : (id : ℕ) (top rest : List ℕ) → id ∷ [] ≡ top ++ rest → top ≢ [] → top ≡ id ∷ []
one_long id [] rest e some = absurd (some refl)
one_long id (t ∷ []) rest e some = let same : id ≡ t = cc in ap (λ (n : ℕ). n ∷ []) (sym same)
one_long id (t ∷ u ∷ top) rest e some = absurd (cc)

-- the directory of a file has a shorter path
parent_shorter : (top : List ℕ) → top ≢ [] → length (unwrap_or (parent_of top) master) < length top
parent_shorter [] some = absurd (some refl)
parent_shorter (id ∷ top) some =
    let count : (length (id ∷ top) == 0) ≡ false = not_zero (length (id ∷ top)) (λ e. omega (arith, e)) in
    rw count (omega (arith, length-take (length (id ∷ top) - 1) (id ∷ top)))

-- a shorter path isn't below
shorter_outside : (top path : List ℕ) → length path < length top → stands_below top path ≡ false
shorter_outside top path short =
    is_false (stands_below top path) (λ below.
    omega (arith, short, ap length (below_is top path below), length-append top (drop (length top) path)))

module _ (content : Content) (system : IsFileSystem content) (row : FileRow) (may : IsDeletable content.rows row) where
  abbrev top : List ℕ
  top = row.head.path

  file_of_row : IsFile row.head
  file_of_row = found_head IsFile (λ (x : FileRow). same_path x.head.path top) content.rows row system.files.each may.among

  has_path : top ≢ []
  has_path = path_of_form row.head.kind row.head file_of_row.form (deletable_not_master row.head.kind may.kind)

  -- no application stands below a file that may be deleted
  application_outside : (path : List ℕ) → IsSomeAnd (file_at path content.rows) (λ row. row.head.kind ≡ Application) → stands_below top path ≡ false
  application_outside path said =
      is_false (stands_below top path) (λ below.
      let found = some_is (file_at path content.rows) (λ row. row.head.kind ≡ Application) said in
      let app : FileRow = found.0 in
      let form : HasForm app.head.kind app.head = (found_head IsFile (λ (x : FileRow). same_path x.head.path path) content.rows app system.files.each found.1).form in
      let is_application : IsApplication app.head = subst (λ (kind : Kind). HasForm kind app.head) found.2 form in
      let one : path ≡ is_application.path.0 ∷ [] = sym (path_found path content.rows app found.1) ∙ is_application.path.1 in
      let same : path ≡ top = one ∙ sym (one_long is_application.path.0 top (drop (length top) path) (sym one ∙ below_is top path below) has_path) in
      let row_there : file_at path content.rows ≡ Some row = ap (λ (p : List ℕ). file_at p content.rows) same ∙ may.among in
      let is_row : app ≡ row = cc (found.1, row_there) in
      deletable_no_application row.head.kind may.kind (subst (λ (x : FileRow). x.head.kind ≡ Application) is_row found.2))

  named_outside : (app : Option (List ℕ)) → IfSome app (λ path. IsSomeAnd (file_at path content.rows) (λ row. row.head.kind ≡ Application)) → is_named_below top app ≡ false
  named_outside None said = refl
  named_outside (Some path) said = application_outside path said

  -- the directory that is left isn't below, and is one of the card
  left_outside : (directory : List ℕ) → stands_below top (directory_left top directory) ≡ false
  left_outside directory = either (stands_below top directory) refl
    where
      either : (b : Bool) → stands_below top directory ≡ b → stands_below top (cond b (unwrap_or (parent_of top) master) directory) ≡ false
      either true below = shorter_outside top (unwrap_or (parent_of top) master) (parent_shorter top has_path)
      either false outside = outside

  left_there : (directory : List ℕ) → IsDirectoryIn content.rows directory → IsDirectoryIn content.rows (directory_left top directory)
  left_there directory is = either (stands_below top directory)
    where
      either : (b : Bool) → IsDirectoryIn content.rows (cond b (unwrap_or (parent_of top) master) directory)
      either true = directory_of_file content.rows row system.files may.among (deletable_not_master row.head.kind may.kind)
      either false = is

  pub nothing_named : (chan : Chan) → StandsAmong content.rows chan → stands_there top (Some (channel_left top chan)) ≡ false
  nothing_named chan stands = rw (left_outside chan.dir, named_outside chan.app stands.app) refl

  own_stands : (chan : Chan) → StandsAmong content.rows chan → StandsAmong (left_rows content top) (channel_left top chan)
  own_stands chan stands = record {
    app = named_left content top (λ row. row.head.kind ≡ Application) chan.app (named_outside chan.app stands.app) stands.app;
    dir = dir_left content top (directory_left top chan.dir) (left_outside chan.dir) (left_there chan.dir stands.dir);
    file = tt;
    pointer = inl refl;
  }

  module _ (session : Session) (suits : Suits session content.rows) (channel : ℕ) (is_open : IsOpen session channel) (unused : is_used_elsewhere session channel top ≡ false) where
    abbrev after : Option Chan
    after = Some (channel_left top (open_channel session channel))

    -- the channel of the command, and each other one
    pub by_channel : (P : Option Chan → Type 0) → P after → ((number : ℕ) → number ≢ channel → P (channel_at session number)) → (number : ℕ) → P (channel_at (leaving session channel top) number)
    by_channel P own others number =
        elim (cases_eq number channel) [
          | inl e ↦ rw (e, channel_at-with_channel_same session channel after (open_within session channel is_open)) own
          | inr apart ↦ rw (channel_at-with_channel session channel number after apart) (others number apart)
        ]

    pub Suits-leaving : Suits (leaving session channel top) (left_rows content top)
    Suits-leaving = record {
      places = length-set session.channels channel after ∙ suits.places;
      basic = by_channel_basic (cases_eq 0 channel);
      each = by_channel (λ place. IfSome place (StandsAmong (left_rows content top)))
          (own_stands (open_channel session channel) (stands_open session content.rows channel suits is_open))
          (λ number apart. place_stands content top (channel_at session number) (no_other_there session channel top unused suits.places number apart) (suits.each number));
    }
      where
        by_channel_basic : (0 ≡ channel) ⊎ (0 ≢ channel) → IsOpen (leaving session channel top) 0
        by_channel_basic (inl e) =
            subst (λ (number : ℕ). IsOpen (leaving session channel top) number) (sym e)
            (rw (channel_at-with_channel_same session channel after (open_within session channel is_open)) refl)
        by_channel_basic (inr apart) = rw (channel_at-with_channel session channel 0 after apart) suits.basic

    -- no channel names what is gone
    pub none_names : (number : ℕ) → stands_there top (channel_at (leaving session channel top) number) ≡ false
    none_names = by_channel (λ place. stands_there top place ≡ false)
        (nothing_named (open_channel session channel) (stands_open session content.rows channel suits is_open))
        (no_other_there session channel top unused suits.places)
