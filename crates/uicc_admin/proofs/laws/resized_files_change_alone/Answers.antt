use Rattle.uicc_admin.proofs.ResizeRowLemmas.{channels-resize, other_files-resize, pointers-resize}
use Rattle.uicc_admin.proofs.laws.resized_files_change_alone.Goals as goal

pub returns-clause-others : goal.returns-clause-others
returns-clause-others c content allowed session command asked row path said named apart = other_files-resize content allowed session command asked row path said named apart

pub returns-clause-channels : goal.returns-clause-channels
returns-clause-channels c rows allowed session command number chan is = channels-resize rows allowed session command number chan is

pub returns-clause-pointers : goal.returns-clause-pointers
returns-clause-pointers c rows allowed session command asked row number chan said named linear accepted at is =
    pointers-resize rows allowed session command asked row number chan said named linear accepted at is
