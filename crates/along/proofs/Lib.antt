pub mod ChoosingLaws
