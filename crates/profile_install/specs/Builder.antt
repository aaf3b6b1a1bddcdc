-- What the fields of a builder stand for.
use Rattle.std.specs.Prelude.{◌≡◌, ◌<◌, ◌^◌, if◌then◌else◌, Some, None}
use Rattle.std.specs.List.{AllByRecursion}
use Rattle.package_reader.specs.ReaderState.{fed, fresh_reader}
use Rattle.profile_install.specs.BuilderState.{BuilderState}
use Rattle.profile_install.specs.declared.builder.Builder.TheInside.{Inside}

abbrev pub builder_state_of : Inside → BuilderState
builder_state_of fields = record {
  iccid = fields.iccid;
  bytes = if fields.spent then None else Some fields.elements.unread;
}

-- no part was taken yet, and what came are bytes
pub record IsUntaken (fields : Inside) : Type 0 where
  pub untaken : fields.elements ≡ fed fresh_reader fields.elements.unread
  pub bytes : AllByRecursion (λ byte. byte < 2 ^ 8) fields.elements.unread
