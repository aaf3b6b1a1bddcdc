use Rattle.fcp_codec.proofs.CreationFits.{made_fits, refused_not}
use Rattle.fcp_codec.proofs.laws.created_files_fit.Goals as goal

pub returns-clause-made : goal.returns-clause-made
returns-clause-made c content directory fcp head valid there e = made_fits content directory fcp valid there head e

pub returns-clause-refused : goal.returns-clause-refused
returns-clause-refused c content directory fcp told fault valid there is e other = refused_not content directory fcp valid there told fault is e other
