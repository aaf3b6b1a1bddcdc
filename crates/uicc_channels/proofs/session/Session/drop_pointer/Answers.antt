use Rattle.std.proofs.Common.{◌≡◌, None, get_or, refl}
use Rattle.std.proofs.lemmas.List.{set-set}
use Rattle.std.proofs.lemmas.Option.{get_or_from_slice_get}
use Rattle.uicc_channels.proofs.session.Session.drop_pointer.Goals as goal

pub returns : goal.returns
returns c =
    let was : get_or c.args.self.now.channels c.args.number None ≡ c.replace-place.result =
    get_or_from_slice_get c.args.self.now.channels c.args.number c.replace-place.result None c.replace-place.ensures.value in
    rw (
      c.set.ensures,
      c.replace-place.ensures.after,
      c.within_end.ensures,
      ← was,
      set-set c.args.self.now.channels c.args.number None,
    ) refl
