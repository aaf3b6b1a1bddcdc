use Rattle.record_codec.proofs.copying.put_copied.Goals as goal

pub returns-in-Profile-clause-sizes : goal.returns-in-Profile-clause-sizes
returns-in-Profile-clause-sizes c =
    let sizes = c.put_pooled_profile.ensures.sizes in
    rw c.in-Profile.is (tt, (sizes.0, (sizes.1, (sizes.2, sizes.3))))
