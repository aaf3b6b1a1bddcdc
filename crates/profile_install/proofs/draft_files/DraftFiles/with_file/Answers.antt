use Rattle.profile_install.proofs.FilesStay.{found_with_file}
use Rattle.profile_install.proofs.draft_files.DraftFiles.with_file.Goals as goal

pub invariant_of-result : goal.invariant_of-result
invariant_of-result c =
    found_with_file c.self.inside c.args.row c.len.result c.push.new.self c.in_ok-places.places
    c.in_ok-sfis.sfis c.in_ok-names.names c.self.invariant c.len.ensures c.in_ok-push.ensures.ok
    c.in_ok-places.ensures c.in_ok-sfis.ensures c.in_ok-names.ensures
