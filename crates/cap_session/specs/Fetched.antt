-- An object that was read, as a source.
use Rattle.cap_session.specs.declared.fetching.Fetched.{Fetched}
use Rattle.cap_session.specs.Loading.{Source}

abbrev pub source_of : Fetched → Source
source_of f = record { bytes = f.bytes.items; records = f.object.records }
