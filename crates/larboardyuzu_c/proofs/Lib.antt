mod EndpointLaws
