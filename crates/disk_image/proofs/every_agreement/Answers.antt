use Rattle.disk_image.proofs.every_agreement.Goals as goal
use Rattle.disk_image.proofs.AgreementLemmas.{every_agreement}

pub returns : goal.returns
returns c = every_agreement
