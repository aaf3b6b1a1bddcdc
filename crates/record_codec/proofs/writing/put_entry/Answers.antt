use Rattle.std.proofs.Common.{subst}
use Rattle.std.specs.Prelude.{IfSome}
use Rattle.record_codec.specs.Sizes.{IsByte, HasFileSizes, IsList, HasPinSizes, IsProfileHead}
use Rattle.record_codec.specs.declared.profile.Profile.{Profile}
use Rattle.record_codec.proofs.writing.put_entry.Goals as goal

pub returns-in-PutProfile-clause-sizes : goal.returns-in-PutProfile-clause-sizes
returns-in-PutProfile-clause-sizes c =
    let sizes = c.put_profile.ensures.sizes in
    rw c.in-PutProfile.is (
      tt,
      subst
          (λ (its : Profile). IsProfileHead its.head × (IfSome c.in-PutProfile.port IsByte × (IsList 65535 HasFileSizes its.content.rows × IsList 65535 HasPinSizes its.content.pins)))
          c.get-profile.ensures (sizes.0, (sizes.1, (sizes.2, sizes.3))),
    )
