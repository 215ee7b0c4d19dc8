use Rattle.cap_loaded.proofs.Readable.{readable}
use Rattle.cap_loaded.proofs.Shown.{shown-state}
use Rattle.cap_loaded.proofs.Words.{held-words}
use Rattle.cap_session.specs.Loading.{fetch_from}
use Rattle.cap_loaded.proofs.laws.loaded_laws.Goals as goal

pub returns-clause-reads_back : goal.returns-clause-reads_back
returns-clause-reads_back c = λ store dir main rule calls state leads.
    let reached = c.state_laws.ensures.reached.run store dir main rule calls state leads.«end» in
    let held = c.state_laws.ensures.held store dir main rule calls state leads.main_is leads.calls_are leads.«end» in
    let can = readable state reached held in
    let is = c.reading_laws.ensures.are_images _ _ _ can in
    record { is_image = is; read = c.reading_laws.ensures.reads_back _ is; objects = c.reading_laws.ensures.are_read _ _ _ can }

pub returns-clause-holds : goal.returns-clause-holds
returns-clause-holds c = λ store dir main rule calls state leads.
    let reached = c.state_laws.ensures.reached.run store dir main rule calls state leads.«end» in
    let held = c.state_laws.ensures.held store dir main rule calls state leads.main_is leads.calls_are leads.«end» in
    let can = readable state reached held in
    held-words c.image_laws.ensures.objects c.image_laws.ensures.read c.granule_laws.ensures.held _ _ _ can (c.reading_laws.ensures.are_images _ _ _ can)

pub returns-clause-shown : goal.returns-clause-shown
returns-clause-shown c = λ store dir main rule calls state leads.
    let reached = c.state_laws.ensures.reached.run store dir main rule calls state leads.«end» in
    let held = c.state_laws.ensures.held store dir main rule calls state leads.main_is leads.calls_are leads.«end» in
    shown-state c.image_laws.ensures.objects c.image_laws.ensures.read (fetch_from store) dir main rule calls state held.pair_count (readable state reached held).can_be_written
    (λ i lt. c.state_laws.ensures.bound store dir main rule calls state leads.«end» i lt) (λ i d h. c.state_laws.ensures.shown store dir main rule calls state i d h)
